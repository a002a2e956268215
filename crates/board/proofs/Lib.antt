mod Lists
pub mod Placing
pub mod Binding
pub mod Keeping
pub mod Calling
pub mod Comparing
pub mod Reading
pub mod Proving
pub mod Rehearsed
pub mod Spelling
pub mod Starting
pub mod Turning
