-- Laws of the runs of a line.
mod Runs
