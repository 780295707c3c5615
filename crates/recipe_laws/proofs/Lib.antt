-- Laws of a list of recipes: its single calls in order, the first bad recipe, premultiplied pictures, and the runs of the function for C.
pub mod Calls
pub mod InOrder
pub mod Refused
pub mod Stays
pub mod FaceRuns
