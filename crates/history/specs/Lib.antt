-- What a reader has to believe: Lists, Events, Limits, Texts, Layers, Rules, Preferences.
pub mod Lists
pub mod Events
pub mod Limits
pub mod Texts
pub mod Layers
pub mod Rules
pub mod Preferences
-- Facts about them that the traits' members cite; the checker reads these.
pub mod Few
pub mod Lawful
