-- The marked cases of rule 11, proved of the definitions.
pub mod Table
