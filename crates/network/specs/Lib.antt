pub mod Arrival
pub mod Errors
pub mod Events
pub mod Flight
pub mod FlightState
pub mod Model
pub mod Packets
pub mod Places
