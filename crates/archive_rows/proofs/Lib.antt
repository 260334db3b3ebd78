pub mod KeptRows
