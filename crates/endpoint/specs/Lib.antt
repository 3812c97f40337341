pub mod FrameError
pub mod Frames
