-- Laws of what the passes of the blur keep, and of what a call leaves whatever it answers.
pub mod Carried
pub mod Left
