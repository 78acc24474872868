-- The reader's own values, seen as those of the language. The contract of `parse` needs none of these.
pub mod Tables
pub mod WordViews
pub mod LineViews
pub mod Reading
