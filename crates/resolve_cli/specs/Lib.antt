pub mod Answer
pub mod Headline
pub mod Numbers
pub mod Resolves
pub mod Texts
