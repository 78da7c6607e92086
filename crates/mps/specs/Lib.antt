-- Request #101, in its order.
-- the problem without its strings, names and index values
pub mod Sheet
-- its export
pub mod Export
-- what its reader reports
pub mod Report
-- the reader, by what is an export
pub mod Rereading
-- the sheet of a generated problem, and its export
pub mod Problem
-- a reader of exports, as the code goes: nobody has to believe it
pub mod Reading
