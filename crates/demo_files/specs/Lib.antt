pub mod Draws
pub mod Surveys
pub mod DemoFiles
pub mod SteadyFiles
