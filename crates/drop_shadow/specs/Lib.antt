-- What the drop shadow is, what it needs, what its entry answers, and when two calls are alike.
pub mod Shadowed
pub mod Cast
pub mod Needs
pub mod Outcome
pub mod Alike
