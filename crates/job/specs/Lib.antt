-- The definitions that contracts cite of the job.
pub mod Job
