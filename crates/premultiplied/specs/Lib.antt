-- What a premultiplied picture is, and that one stays one.
pub mod Rule
pub mod Stays
