-- How C gets what the readers of files answer.
pub mod Words
pub mod Images
