-- The definitions that the contracts cite. The meaning, in reading order: the handshake's bytes, the ends of a link and their marks, the notes of a dialer, outer and inner dials, those to come, and what contracts see of it all.
pub mod Messages
pub mod Ends
pub mod Marks
pub mod Notes
pub mod Handshakes
pub mod Comings
pub mod Dialers
-- Steps: a reply in two parts, one handshake over both ends, one dial of a server.
pub mod Replies
pub mod Shaking
pub mod Serving
