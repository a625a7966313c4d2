mod AskLaws
mod GivenLaws
mod SizeLaws
mod WordLaws
mod SizeCases
