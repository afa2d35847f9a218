pub mod Limits
pub mod Info
pub mod Kind
pub mod Point
pub mod Places
pub mod Property
pub mod Failure
pub mod Device
pub mod Access
pub mod Reply
pub mod Size
pub mod Demo
pub mod Turns
pub mod Inner
unfoldable pub use Limits.*
unfoldable pub use Info.*
unfoldable pub use Kind.*
unfoldable pub use Point.*
unfoldable pub use Places.*
unfoldable pub use Property.*
unfoldable pub use Failure.*
unfoldable pub use Device.*
unfoldable pub use Access.*
unfoldable pub use Reply.*
unfoldable pub use Size.*
unfoldable pub use Demo.*
unfoldable pub use Turns.*
pub use Rattle.bac_device.specs.{Demo.demo_points, Device.{device_after, DeviceState}, Places.Write}
pub use Rattle.{bac_device.specs.Turns.{Arrival, replies_to}, bac_pdu.specs.declared.apdu.Part.Part}
