pub mod LineSets
