-- Words that the types' own fields and private functions alone use.
pub mod Fields
pub mod Contents
