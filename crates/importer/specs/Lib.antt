-- the answer
pub mod Reads
-- the parts of the reader of exports that inner functions follow, and what these functions answer
pub mod Sections
pub mod Steps
