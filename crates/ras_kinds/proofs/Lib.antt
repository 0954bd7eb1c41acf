pub mod Joints
pub mod TreeForms
pub mod Axes
pub mod AtomsInTurn
pub mod TreeNames
pub mod Parts
