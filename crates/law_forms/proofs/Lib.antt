pub mod CellTypes
pub mod KindsOfParts
pub mod ShapesByKind
pub mod ShapesOfParts
