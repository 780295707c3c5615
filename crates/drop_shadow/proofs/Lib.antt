-- Laws of what an accepted call needs and leaves, and of what its contract determines; and two calls worked out.
pub mod Accepted
pub mod Determined
pub mod Cast
pub mod Alpha
pub mod Alone
pub mod Conditions
pub mod Examples
