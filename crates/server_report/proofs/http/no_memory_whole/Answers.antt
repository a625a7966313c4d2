use Rattle.std.proofs.Common.{refl}
use Rattle.std.specs.Fmt.{digits}
use Rattle.server_report.specs.Http.{allow_line, body_lines, head_text, media_type, status_lines, status_words}
use Rattle.server_report.proofs.http.no_memory_whole.Goals as goal

pub returns : goal.returns
unfolding head_text status_lines body_lines status_words media_type allow_line digits
returns c = refl
