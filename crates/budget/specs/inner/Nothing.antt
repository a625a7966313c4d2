-- What is owned by what owns nothing of its own.
use base.Fml.{Fml, ftrue}

abbrev pub nothing : Fml
nothing = ftrue
