pub mod Network
pub mod Distance
pub mod NextHop
pub mod Laws
pub mod Repair
pub mod RepairLaws
pub mod Worked
