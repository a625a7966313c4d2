mod AskLaws
mod LineLaws
