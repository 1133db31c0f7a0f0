-- What any box has to do: the calls, the three demands, the log that the third speaks of, and what the third comes to over whole runs.
-- Assumes nothing.
pub mod Box
pub mod Demand1
pub mod Demand2
pub mod Log
pub mod Demand3
pub mod Plain
