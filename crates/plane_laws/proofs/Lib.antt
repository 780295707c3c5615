-- Laws of every call on four planes: there and back, the same as on the picture, and premultiplied stays premultiplied.
pub mod Calls
pub mod Returned
pub mod Same
pub mod Stays
