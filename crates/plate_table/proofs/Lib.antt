-- Laws of bytes laid into a buffer and of a table written anew.
pub mod Laid
pub mod Retabled
