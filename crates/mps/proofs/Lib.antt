-- what follows a word
pub mod Stripped
-- a value and its line
pub mod Values
-- rows with a floor
pub mod Floors
-- what is read is the text's sheet
pub mod Sound
-- every export is read
pub mod Complete
-- the sheet of a generated problem
pub mod Problems
pub mod Reread
