pub mod Joints
