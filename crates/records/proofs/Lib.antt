pub mod BigEndian
pub mod ReadBack
