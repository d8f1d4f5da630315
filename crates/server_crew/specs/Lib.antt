-- Why workers end, as far as the bench shows it.
pub mod Causes
