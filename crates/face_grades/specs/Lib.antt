-- How C gets what the check finds.
pub mod Words
