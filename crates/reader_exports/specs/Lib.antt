-- What the reader's two calls leave, over slices and numbers alone.
pub mod Words
pub mod Reader
