-- From what the line cutter tells of a stream to what a connection tells of the bytes of a line.
use Rattle.std.proofs.Common.{◌≡◌, ◌<◌, ℕ, Bool, min, length, if◌then◌else◌, List, [], ◌∷◌, ◌++◌, take, arith, refl, sym, ap, ◌∙◌, subst, append-nil, true, false, Some}
use Rattle.std.specs.Prelude.{All}
use Rattle.std.proofs.lemmas.List.Elements.{All-head}
use Rattle.line_io.specs.Wire.{EndsInCr, IsUncut, crlf, joined, wire_lines, wire_rest}
use Rattle.line_io.specs.inner.WireLaws.{lines_are, reading_cut, uncut_nil}
use Rattle.line_io.specs.Cutting.{LineCutter, EndsLine}
use Rattle.line_io.specs.Cutting as cutting
use Rattle.std.proofs.lemmas.List.{length-take}
use Rattle.imap_session.specs.declared.standing.After.{After}
use Rattle.imap_session.specs.declared.standing.After.TheVariants.{Bye}
use Rattle.imap_session.specs.Exchange.{Answer, Call, Standing, may_send, waits_for}
use Rattle.imap_session.specs.Store.{TakesBytes}
use Rattle.imap_session.specs.declared.connection.Fed.{Fed}
use Rattle.imap_session.specs.Commands.{due_of}
use Rattle.imap_session.specs.Dialogue.{Dialogue, ImapConnection, StandsFor, Takes, begins, takes}

-- what is within one line has no line, and is its own rest
uncut_reads : (bytes : List ℕ) → IsUncut bytes → (wire_lines bytes ≡ []) × (wire_rest bytes ≡ bytes)
uncut_reads bytes h = lines_are bytes [] bytes (record { whole = refl; each = λ k d l. absurd (omega arith); open_end = h })

-- bytes without a line are within one
no_lines : (bytes : List ℕ) → wire_lines bytes ≡ [] → IsUncut bytes
no_lines bytes e =
    let cut = reading_cut bytes in
    let whole : bytes ≡ wire_rest bytes = subst (λ (ls : List (List ℕ)). bytes ≡ joined ls ++ wire_rest bytes) e cut.whole in
    subst (λ (t : List ℕ). IsUncut t) (sym whole) cut.open_end

-- a line that has ended, and nothing behind it
one_line : (bytes line : List ℕ) → wire_lines bytes ≡ line ∷ [] → wire_rest bytes ≡ [] → (bytes ≡ line ++ crlf) × IsUncut line
one_line bytes line e r =
    let cut = reading_cut bytes in
    let whole : bytes ≡ joined (line ∷ []) ++ [] = subst (λ (ls : List (List ℕ)). bytes ≡ joined ls ++ []) e (subst (λ (t : List ℕ). bytes ≡ joined (wire_lines bytes) ++ t) r cut.whole) in
    (whole ∙ append-nil (joined (line ∷ [])) ∙ append-nil (line ++ crlf), All-head IsUncut line [] (subst (λ (ls : List (List ℕ)). All IsUncut ls) e cut.each))

-- between two lines it is as at the start
stands_afresh : (cutter : LineCutter) (stream : List ℕ) → cutting.StandsFor cutter stream → wire_rest stream ≡ [] → cutting.StandsFor cutter []
stands_afresh cutter stream s e = record {
  kept = s.kept ∙ ap (λ t. take cutter.max t) e;
  cr = subst (λ (t : List ℕ). cutter.after_cr ≡ true → EndsInCr t) e s.cr;
  no_cr = subst (λ (t : List ℕ). cutter.after_cr ≡ false → EndsInCr t → ⊥) e s.no_cr;
}

-- no line ended in the piece
pub has_begun : (session : Standing) (cutter : LineCutter) (d : Dialogue) (piece : List ℕ) → session ≡ d.standing → IsUncut d.begun → due_of d.standing.mailing.begun ≡ 0
    → cutting.StandsFor cutter (d.begun ++ piece) → wire_lines (d.begun ++ piece) ≡ wire_lines d.begun
    → StandsFor (record { session = session; cutter = cutter }) (record { standing = d.standing; begun = d.begun ++ piece })
has_begun session cutter d piece same uncut none stands e = record {
  session = same;
  cutter = stands;
  uncut = no_lines (d.begun ++ piece) (e ∙ (uncut_reads d.begun uncut).0);
  alone = λ due. absurd (omega (arith, due, none));
}

-- the line that had begun has ended
pub line_ends : (d : Dialogue) (used line : List ℕ) → IsUncut d.begun → EndsLine d.begun used line → (d.begun ++ used ≡ line ++ crlf) × IsUncut line
line_ends d used line uncut h =
    one_line (d.begun ++ used) line (h.lines ∙ ap (λ (ls : List (List ℕ)). ls ++ line ∷ []) (uncut_reads d.begun uncut).0) h.rest

pub stands_anew : (session : Standing) (cutter : LineCutter) (begun used line : List ℕ) → cutting.StandsFor cutter (begun ++ used) → EndsLine begun used line
    → StandsFor (record { session = session; cutter = cutter }) (record { standing = session; begun = [] })
stands_anew session cutter begun used line stands h = record {
  session = refl;
  cutter = stands_afresh cutter (begun ++ used) stands h.rest;
  uncut = uncut_nil;
  alone = λ due. refl;
}

-- no byte came, and the connection stands as it did
pub as_before : (link : ImapConnection) (d : Dialogue) → StandsFor link d → StandsFor link (record { standing = d.standing; begun = d.begun ++ [] })
as_before link d s = subst (λ (t : List ℕ). StandsFor link (record { standing = d.standing; begun = t })) (sym (append-nil d.begun)) s

-- bytes of a literal were taken, and the cutter wasn't asked
pub stands_behind : (session : Standing) (cutter : LineCutter) (d : Dialogue) (link : ImapConnection) → StandsFor link d → d.begun ≡ [] → cutter ≡ link.cutter
    → StandsFor (record { session = session; cutter = cutter }) (record { standing = session; begun = [] })
stands_behind session cutter d link s none same = record {
  session = refl;
  cutter = subst (λ (c : LineCutter). cutting.StandsFor c []) (sym same) (subst (λ (t : List ℕ). cutting.StandsFor link.cutter t) none s.cutter);
  uncut = uncut_nil;
  alone = λ due. refl;
}

pub some_same : (a b : List ℕ) → Some a ≡ Some b → a ≡ b
some_same a b e = cc

-- no byte of a literal is due
pub none_due : (session standing : Standing) → session ≡ standing → (due : ℕ) → due ≡ due_of session.mailing.begun → due ≡ 0 → due_of standing.mailing.begun ≡ 0
none_due session standing same due is zero = ap (λ (s : Standing). due_of s.mailing.begun) (sym same) ∙ sym is ∙ zero

-- where the session goes on
on_live : (how : After) (session : Standing) → how ≡ may_send session → session.ended ≡ false → how ≡ waits_for session
on_live how session sends live = sends ∙ ap (λ (b : Bool). if b then Bye else waits_for session) live

-- bytes of a literal were taken, or none came
pub literal_taken : {S : Type 0} (step : S → Call → Answer → S → Type 0) (d : Dialogue) (piece : List ℕ) (store : S) (text : List ℕ) (fed : Fed) (old new : ImapConnection) → StandsFor old d → d.standing.ended ≡ false
    → 0 < due_of d.standing.mailing.begun → fed.used ≡ min (length piece) (due_of d.standing.mailing.begun) → (length piece ≡ 0 → new ≡ old) → (0 < length piece → TakesBytes d.standing (take fed.used piece) new.session)
    → new.cutter ≡ old.cutter → fed.after ≡ may_send new.session → Takes step d piece store store text text fed new
literal_taken step d [] store text fed old new s live due used none took cutter sends =
    let same = none refl in
    let session : new.session ≡ d.standing = ap (λ (l : ImapConnection). l.session) same ∙ s.session in
    begins live (omega (arith, used)) (on_live fed.after d.standing (sends ∙ ap may_send session) live) refl refl (subst (λ (l : ImapConnection). StandsFor l (record { standing = d.standing; begun = d.begun ++ [] })) (sym same) (as_before old d s))
literal_taken step d (x ∷ xs) store text fed old new s live due used none took cutter sends =
    let bytes = took (omega arith) in
    let now : new.session.ended ≡ false = ap (λ (s : Standing). s.ended) bytes.1 ∙ live in
    let many : length (take fed.used (x ∷ xs)) ≡ min fed.used (length (x ∷ xs)) = length-take fed.used (x ∷ xs) in
    takes new.session live (s.alone due)
    (record {
      goes = live;
      some = omega (arith, many, used, due);
      due = omega (arith, many, used);
      takes = bytes;
      unasked = refl;
      silent = refl;
      waits = on_live fed.after new.session sends now;
    })
    (stands_behind new.session new.cutter d old s (s.alone due) cutter)
