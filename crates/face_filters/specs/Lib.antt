-- What C passes to a filter.
pub mod Words
