-- Laws of the stretch that is a plate, and of the room in it.
pub mod Room
