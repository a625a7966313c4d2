mod AnnouncingLaws
mod Endings
mod Kept
mod Refuted
mod Serving
mod Users
mod Visits
