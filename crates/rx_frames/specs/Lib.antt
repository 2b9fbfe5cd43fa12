pub mod Frames
pub mod Activities
pub mod Runs
pub mod FrameLends
pub mod ActivityLends
pub mod StackLends
