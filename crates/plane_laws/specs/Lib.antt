-- What is said of every call on four planes: which calls there are, that they are those on the picture, and that premultiplied stays premultiplied.
pub mod Calls
pub mod Same
pub mod Stays
