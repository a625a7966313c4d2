-- The message that a session submits is one that its client sent: its line, its literal, and the CRLF behind that.
use Rattle.std.proofs.Common.{◌≡◌, inl, inr, ℕ, ◌+◌, ◌≤◌, Bool, true, false, ◌==◌, List, [], ◌∷◌, ◌++◌, length, length-append, refl, sym, ap, ◌∙◌, subst, arith, append-nil, append_assoc, Option, Some, None, take, codes}
use Rattle.imap_grammar.specs.declared.command.Literal.{Literal as Announced}
use Rattle.std.specs.Prelude.{if◌then◌else◌, IfSome, Result, Ok, Err, nat_lt}
use Rattle.std.specs.Option.{option_map}
use Rattle.std.proofs.lemmas.Bool.{eqb-true}
use Rattle.std.proofs.lemmas.Option.{none-some}
use Rattle.line_io.specs.Wire.{crlf}
use Rattle.world.specs.World.{Config, World}
use Rattle.imap_grammar.specs.Reading.{read}
use Rattle.imap_grammar.specs.declared.command.Append.{Append}
use Rattle.imap_grammar.specs.declared.command.Command.{Command}
use Rattle.imap_grammar.specs.declared.command.Command.TheVariants as commands
use Rattle.imap_grammar.specs.declared.command.ImapFault.{ImapFault}
use Rattle.delivery_token.specs.declared.Verdict.{Verdict}
use Rattle.mail_date.specs.declared.stamp.Stamp.{Stamp}
use Rattle.delivery_token.specs.Text.{Text}
use Rattle.imap_session.specs.Exchange.{Answer, is_idling, PendingLiteral, Asked, Dropped, Folder, ForDone, ForLiteral, ForNothing, ForVerdict, Mailing, Sent, Standing, Turn, Unasked, Waiting, Argument, Message, Response, Purpose, Origin, Client, Copied, Batch}
use Rattle.imap_session.specs.Commands.{due_of, fault_text, kept_text, number_named, on_read, only_says, taking, turn_of, turn_with, with_bytes, without_begun, without_sent, logs_in_as, on_line, says, on_text_line, date_for, flags_for, mailbox_for, response_in, most_line}
use Rattle.imap_session.specs.Store.{IdleTurns, Met}
use Rattle.house_peers.proofs.Rising.{idles_keep}
use Rattle.imap_session.specs.Happenings.{Happening, Heard, IsSentFor, Line, Literal, LongLine, Turned, if_kept, leads_to, whole_behind, whole_in, whole_line}
use Rattle.laws_client.proofs.Folders.{heard_folders, idle_folders, line_folders}
use Rattle.laws_client.proofs.Turns.{the_turn}
use Rattle.laws_client.specs.Appends.{IsSentAs, CameAs, CameBy, IsCopyOf}
use Rattle.laws_client.proofs.Moved.{Calls}
use Rattle.laws_client.proofs.Waiting.{ForItsArgument, ForItsLiteral, ForItsResponse, ForItsVerdict, IsMail, SubmitsNone, append_mail, argument_mail, given_mail, response_mail, idling_mail, other_mail, rest_mail, verdict_mail, ForItsCopy, copy_mail, ForTheNext, IsNext}
use Rattle.change_ring.specs.declared.change.Flags.{Flags}
use Rattle.imap_grammar.specs.declared.command.Authenticate.{Authenticate}
use Rattle.imap_grammar.specs.Literals.{announced, quoted}
use Rattle.laws_client.proofs.WholeLines.{turn_given, text_awaits}
use Rattle.imap_grammar.specs.declared.command.CopyMessages.{CopyMessages}
use Rattle.mailbox.specs.declared.clients.Row.{Row}
use Rattle.laws_client.specs.Clients.{IsSpelled, as_it_stands, with_literal, with_response}

-- ---- what its client sent

-- with its last line a client sent this as the line of a command
pub record SaysLine (sent line : List ℕ) : Type 0 where
  pub front : List ℕ
  pub bytes : List ℕ
  pub spelled : IsSpelled bytes line
  pub whole : sent ≡ front ++ (bytes ++ crlf)

-- of a message whose bytes come, so many of them came, behind its line
pub record MessageWith (folders : List Folder) (sent : List ℕ) (to : Option ℕ) (with : Flags) (dated : Option Stamp) (a : PendingLiteral) (text : List ℕ) : Type 0 where
  pub front : List ℕ
  pub bytes : List ℕ
  pub line : List ℕ
  pub append : Append
  pub spelled : IsSpelled bytes line
  pub reads : read line ≡ Ok (a.tag, commands.Append append)
  pub named : to ≡ number_named append.name folders
  pub flags : with ≡ append.flags
  pub date : dated ≡ append.date
  pub size : length text + a.due ≡ append.literal.size
  pub whole : sent ≡ front ++ (bytes ++ crlf) ++ text

-- of an argument, behind the line that announced it
pub record ArgumentWith (sent before : List ℕ) (a : PendingLiteral) (text : List ℕ) : Type 0 where
  pub front : List ℕ
  pub bytes : List ℕ
  pub line : List ℕ
  pub found : ℕ × Announced
  pub spelled : IsSpelled bytes line
  pub announces : announced line ≡ Some found
  pub cut : before ≡ take found.0 line
  pub size : length text + a.due ≡ found.1.size
  pub whole : sent ≡ front ++ (bytes ++ crlf) ++ text

-- and of a response nothing comes before its line
pub record ResponseWith (sent before : List ℕ) (a : PendingLiteral) (text : List ℕ) : Type 0 where
  pub front : List ℕ
  pub bytes : List ℕ
  pub tag : List ℕ
  pub command : Authenticate
  pub spelled : IsSpelled bytes before
  pub reads : read before ≡ Ok (tag, commands.Authenticate command)
  pub size : length text + a.due ≡ 0
  pub whole : sent ≡ front ++ (bytes ++ crlf) ++ text

abbrev pub IsBegunFor : Purpose → List Folder → List ℕ → PendingLiteral → List ℕ → Type 0
IsBegunFor (Message mailbox flags date) folders sent a text = MessageWith folders sent mailbox flags date a text
IsBegunFor (Argument before) folders sent a text = ArgumentWith sent before a text
IsBegunFor (Response before) folders sent a text = ResponseWith sent before a text

abbrev pub IsBegunAs : List Folder → List ℕ → PendingLiteral → Type 0
IsBegunAs folders sent a = (text : List ℕ) → a.text ≡ Some text → IsBegunFor a.purpose folders sent a text

-- the messages that a session knows of are its client's
pub record Mailed (folders : List Folder) (sent : List ℕ) (now : Standing) : Type 0 where
  pub same : now.folders ≡ folders
  pub begun : IfSome now.mailing.begun (IsBegunAs folders sent)
  pub waits : IfSome now.mailing.sent (CameAs folders sent)

appended_more : (folders : List Folder) (sent bytes : List ℕ) (message : Sent) → IsSentAs folders sent message
    → IsSentAs folders (sent ++ bytes) message
appended_more folders sent bytes message h = record {
  front = h.front;
  bytes = h.bytes;
  line = h.line;
  behind = h.behind ++ bytes;
  append = h.append;
  spelled = h.spelled;
  reads = h.reads;
  named = h.named;
  flags = h.flags;
  date = h.date;
  size = h.size;
  whole = ap (λ (x : List ℕ). x ++ bytes) h.whole ∙ append_assoc (h.front ++ (h.bytes ++ crlf) ++ message.append.text.bytes ++ crlf) h.behind bytes;
}

pub copied_more : (folders : List Folder) (sent bytes : List ℕ) (message : Sent) (batch : Batch) → IsCopyOf folders sent message batch
    → IsCopyOf folders (sent ++ bytes) message batch
copied_more folders sent bytes message batch h = record {
  front = h.front;
  bytes = h.bytes;
  line = h.line;
  behind = h.behind ++ bytes;
  copy = h.copy;
  view = h.view;
  uids = h.uids;
  spelled = h.spelled;
  reads = h.reads;
  named = h.named;
  by_uid = h.by_uid;
  moves = h.moves;
  set = h.set;
  some = h.some;
  all = h.all;
  place = h.place;
  whole = ap (λ (x : List ℕ). x ++ bytes) h.whole ∙ append_assoc (h.front ++ (h.bytes ++ crlf)) h.behind bytes;
}

pub sent_more : (folders : List Folder) (sent bytes : List ℕ) (message : Sent) → CameAs folders sent message → CameAs folders (sent ++ bytes) message
sent_more folders sent bytes message h = by message.origin h
  where
    by : (origin : Origin) → CameBy origin folders sent message → CameBy origin folders (sent ++ bytes) message
    by Client h = appended_more folders sent bytes message h
    by (Copied batch) h = copied_more folders sent bytes message batch h

waits_more : (folders : List Folder) (sent bytes : List ℕ) (o : Option Sent) → IfSome o (CameAs folders sent) → IfSome o (CameAs folders (sent ++ bytes))
waits_more folders sent bytes None h = tt
waits_more folders sent bytes (Some message) h = sent_more folders sent bytes message h

-- the same message waits, and no bytes come
same_mail : (folders : List Folder) (sent bytes : List ℕ) (now next : Standing) → Mailed folders sent now → next.folders ≡ now.folders → next.mailing.sent ≡ now.mailing.sent → next.mailing.begun ≡ None → Mailed folders (sent ++ bytes) next
same_mail folders sent bytes now next m same waits begun = record {
  same = same ∙ m.same;
  begun = subst (λ (o : Option PendingLiteral). IfSome o (IsBegunAs folders (sent ++ bytes))) (sym begun) tt;
  waits = subst (λ (o : Option Sent). IfSome o (CameAs folders (sent ++ bytes))) (sym waits) (waits_more folders sent bytes now.mailing.sent m.waits);
}

pub command_case : {X : Type 0} (command : Command) → ((append : Append) → command ≡ commands.Append append → X)
    → ((copy : CopyMessages) → command ≡ commands.Copy copy → X) → (SubmitsNone command → X) → X
command_case commands.Noop f h g = g tt
command_case (commands.Append append) f h g = f append refl
command_case (commands.Copy copy) f h g = h copy refl
command_case _ f h g = g tt

no_bytes : (line : List ℕ) → (length line == 0) ≡ true → line ≡ []
no_bytes [] e = refl
no_bytes (b ∷ bs) e = let some : length (b ∷ bs) ≡ 0 = eqb-true (length (b ∷ bs)) 0 e in absurd (omega (arith, some))

no_text : (text : List ℕ) → length text ≡ 0 → text ≡ []
no_text [] e = refl
no_text (b ∷ bs) e = absurd (omega (arith, e))

-- bytes more, behind those that came
longer : (front bytes sent more had text : List ℕ) → sent ≡ front ++ bytes ++ had → had ++ more ≡ text → sent ++ more ≡ front ++ bytes ++ text
longer front bytes sent more had text e all = ap (λ (x : List ℕ). x ++ more) e ∙ append_assoc (front ++ bytes) had more ∙ ap (λ (x : List ℕ). (front ++ bytes) ++ x) all

-- ---- a literal begins

abbrev the_text : List ℕ → Option (List ℕ) → List ℕ
the_text d None = d
the_text d (Some t) = t

-- where no bytes came yet, and where memory was refused to them
begun_so : (purpose : Purpose) (folders : List Folder) (sent : List ℕ) (a : PendingLiteral) → a.text ≡ Some [] → IsBegunFor purpose folders sent a [] → a.purpose ≡ purpose → IsBegunAs folders sent a
begun_so purpose folders sent a none h same text is =
    subst (λ (p : Purpose). IsBegunFor p folders sent a text) (sym same) (subst (λ (t : List ℕ). IsBegunFor purpose folders sent a t) (ap (the_text []) (sym none ∙ is)) h)

dropped : (folders : List Folder) (sent : List ℕ) (a : PendingLiteral) → a.text ≡ None → IsBegunAs folders sent a
dropped folders sent a none text is = absurd (none-some text (sym none ∙ is))

-- the same message waits, and a literal begins
begun_mail : (folders : List Folder) (sent bytes : List ℕ) (now next : Standing) (a : PendingLiteral) → Mailed folders sent now → next.folders ≡ now.folders → next.mailing.sent ≡ now.mailing.sent → next.mailing.begun ≡ Some a → IsBegunAs folders (sent ++ bytes) a
    → Mailed folders (sent ++ bytes) next
begun_mail folders sent bytes now next a m same waits begun h = record {
  same = same ∙ m.same;
  begun = subst (λ (o : Option PendingLiteral). IfSome o (IsBegunAs folders (sent ++ bytes))) (sym begun) h;
  waits = subst (λ (o : Option Sent). IfSome o (CameAs folders (sent ++ bytes))) (sym waits) (waits_more folders sent bytes now.mailing.sent m.waits);
}

-- a literal whose bytes are to come, for this
abbrev coming : List ℕ → Purpose → ℕ → PendingLiteral
coming tag purpose size = record { tag = tag; purpose = purpose; size = size; due = size; text = Some [] }

-- it waits so for its literal
waits_for_it : (A : Waiting → Type 0) (folders : List Folder) (sent bytes tag : List ℕ) (now next : Standing) → Mailed folders sent now → next.folders ≡ now.folders → (A ForDone → ⊥)
    → ((origin : Origin) (mailbox : ℕ) (flags : Flags) (text : Text) → A (ForVerdict origin mailbox flags text) → ⊥)
    → ((p : Purpose) (size : ℕ) → A (ForLiteral Asked p size) → IsBegunAs folders (sent ++ bytes) (coming tag p size)) → ((p : Purpose) (size : ℕ) → A (ForLiteral Unasked p size) → IsBegunAs folders (sent ++ bytes) (coming tag p size))
    → IsMail A tag (without_begun now).mailing next.mailing → Mailed folders (sent ++ bytes) next
waits_for_it A folders sent bytes tag now next m same no_done no_verdict asked unasked (inl e) = same_mail folders sent bytes now next m same (ap (λ (x : Mailing). x.sent) e) (ap (λ (x : Mailing). x.begun) e)
waits_for_it A folders sent bytes tag now next m same no_done no_verdict asked unasked (inr (ForDone, p, e)) = absurd (no_done p)
waits_for_it A folders sent bytes tag now next m same no_done no_verdict asked unasked (inr (ForVerdict origin mailbox flags text, p, e)) = absurd (no_verdict origin mailbox flags text p)
waits_for_it A folders sent bytes tag now next m same no_done no_verdict asked unasked (inr (ForNothing, p, e)) = same_mail folders sent bytes now next m same (ap (λ (x : Mailing). x.sent) e) (ap (λ (x : Mailing). x.begun) e)
waits_for_it A folders sent bytes tag now next m same no_done no_verdict asked unasked (inr (ForLiteral Dropped q size, p, e)) =
    begun_mail folders sent bytes now next (record { tag = tag; purpose = q; size = size; due = size; text = None }) m same (ap (λ (x : Mailing). x.sent) e) (ap (λ (x : Mailing). x.begun) e) (dropped folders (sent ++ bytes) _ refl)
waits_for_it A folders sent bytes tag now next m same no_done no_verdict asked unasked (inr (ForLiteral Asked q size, p, e)) =
    begun_mail folders sent bytes now next (coming tag q size) m same (ap (λ (x : Mailing). x.sent) e) (ap (λ (x : Mailing). x.begun) e) (asked q size p)
waits_for_it A folders sent bytes tag now next m same no_done no_verdict asked unasked (inr (ForLiteral Unasked q size, p, e)) =
    begun_mail folders sent bytes now next (coming tag q size) m same (ap (λ (x : Mailing). x.sent) e) (ap (λ (x : Mailing). x.begun) e) (unasked q size p)

-- an APPEND waits for its message
append_begins : (folders : List Folder) (sent bytes line tag : List ℕ) (append : Append) (now next : Standing) → Mailed folders sent now → next.folders ≡ now.folders → SaysLine (sent ++ bytes) line → read line ≡ Ok (tag, commands.Append append)
    → IsMail (ForItsLiteral (number_named append.name now.folders) append) tag (without_begun now).mailing next.mailing → Mailed folders (sent ++ bytes) next
append_begins folders sent bytes line tag append now next m same says reads mail =
    waits_for_it (ForItsLiteral (number_named append.name now.folders) append) folders sent bytes tag now next m same (λ p. p) (λ origin mailbox flags text p. p)
    (λ p size h. begins p size h.0 h.1) (λ p size h. begins p size h.0 h.1) mail
  where
    begins : (purpose : Purpose) (size : ℕ) → purpose ≡ Message (number_named append.name now.folders) append.flags append.date → size ≡ append.literal.size → IsBegunAs folders (sent ++ bytes) (coming tag purpose size)
    begins purpose size p s =
        begun_so (Message (number_named append.name now.folders) append.flags append.date) folders (sent ++ bytes) (coming tag purpose size) refl (record {
          front = says.front;
          bytes = says.bytes;
          line = line;
          append = append;
          spelled = says.spelled;
          reads = reads;
          named = ap (number_named append.name) m.same;
          flags = refl;
          date = refl;
          size = omega (arith, s);
          whole = says.whole ∙ sym (append-nil (says.front ++ (says.bytes ++ crlf)));
        }) p

-- a line that isn't whole waits for its argument
argument_begins : (folders : List Folder) (sent bytes line tag : List ℕ) (found : ℕ × Announced) (now next : Standing) → Mailed folders sent now → next.folders ≡ now.folders → SaysLine (sent ++ bytes) line → announced line ≡ Some found
    → IsMail (ForItsArgument line found) tag (without_begun now).mailing next.mailing → Mailed folders (sent ++ bytes) next
argument_begins folders sent bytes line tag found now next m same says announces mail =
    waits_for_it (ForItsArgument line found) folders sent bytes tag now next m same (λ p. p) (λ origin mailbox flags text p. p) (λ p size h. begins p size h.0 h.1) (λ p size h. begins p size h.0 h.1) mail
  where
    begins : (purpose : Purpose) (size : ℕ) → purpose ≡ Argument (take found.0 line) → size ≡ found.1.size → IsBegunAs folders (sent ++ bytes) (coming tag purpose size)
    begins purpose size p s =
        begun_so (Argument (take found.0 line)) folders (sent ++ bytes) (coming tag purpose size) refl (record {
          front = says.front;
          bytes = says.bytes;
          line = line;
          found = found;
          spelled = says.spelled;
          announces = announces;
          cut = refl;
          size = omega (arith, s);
          whole = says.whole ∙ sym (append-nil (says.front ++ (says.bytes ++ crlf)));
        }) p

-- and AUTHENTICATE for its response
response_begins : (folders : List Folder) (sent bytes line tag said : List ℕ) (a : Authenticate) (now next : Standing) → Mailed folders sent now → next.folders ≡ now.folders → SaysLine (sent ++ bytes) line → read line ≡ Ok (said, commands.Authenticate a)
    → IsMail (ForItsResponse line) tag (without_begun now).mailing next.mailing → Mailed folders (sent ++ bytes) next
response_begins folders sent bytes line tag said a now next m same says reads mail =
    waits_for_it (ForItsResponse line) folders sent bytes tag now next m same (λ p. p) (λ origin mailbox flags text p. p) (λ p size h. begins p size h.0 h.1) (λ p size h. begins p size h.0 h.1) mail
  where
    begins : (purpose : Purpose) (size : ℕ) → purpose ≡ Response line → size ≡ 0 → IsBegunAs folders (sent ++ bytes) (coming tag purpose size)
    begins purpose size p s =
        begun_so (Response line) folders (sent ++ bytes) (coming tag purpose size) refl (record {
          front = says.front;
          bytes = says.bytes;
          tag = said;
          command = a;
          spelled = says.spelled;
          reads = reads;
          size = omega (arith, s);
          whole = says.whole ∙ sym (append-nil (says.front ++ (says.bytes ++ crlf)));
        }) p

-- COPY and MOVE wait for the verdict at once
copy_waits : (folders : List Folder) (sent bytes line tag : List ℕ) (copy : CopyMessages) (now next : Standing) → Mailed folders sent now
    → next.folders ≡ now.folders → SaysLine (sent ++ bytes) line → read line ≡ Ok (tag, commands.Copy copy)
    → IsMail (ForItsCopy (number_named copy.name now.folders) copy) tag (without_begun now).mailing next.mailing → Mailed folders (sent ++ bytes) next
copy_waits folders sent bytes line tag copy now next m same says reads (inl e) =
    same_mail folders sent bytes now next m same (ap (λ (x : Mailing). x.sent) e) (ap (λ (x : Mailing). x.begun) e)
copy_waits folders sent bytes line tag copy now next m same says reads (inr (ForDone, p, e)) = absurd p
copy_waits folders sent bytes line tag copy now next m same says reads (inr (ForNothing, p, e)) = absurd p
copy_waits folders sent bytes line tag copy now next m same says reads (inr (ForLiteral coming q size, p, e)) = absurd p
copy_waits folders sent bytes line tag copy now next m same says reads (inr (ForVerdict Client mailbox flags text, p, e)) = absurd p.1
copy_waits folders sent bytes line tag copy now next m same says reads (inr (ForVerdict (Copied batch) mailbox flags text, p, e)) = record {
  same = same ∙ m.same;
  begun = subst (λ (x : Mailing). IfSome x.begun (IsBegunAs folders (sent ++ bytes))) (sym e) tt;
  waits = subst (λ (x : Mailing). IfSome x.sent (CameAs folders (sent ++ bytes))) (sym e) (record {
    front = says.front;
    bytes = says.bytes;
    line = line;
    behind = [];
    copy = copy;
    view = p.1.view;
    uids = p.1.uids;
    spelled = says.spelled;
    reads = reads;
    named = ap (number_named copy.name) (sym m.same) ∙ p.0;
    by_uid = p.1.by_uid;
    moves = p.1.moves;
    set = p.1.set;
    some = p.1.some;
    all = p.1.all;
    place = omega (arith, ap (length {A = ℕ}) p.1.first, p.1.others);
    whole = says.whole ∙ sym (append-nil (says.front ++ (says.bytes ++ crlf)));
  });
}

-- ---- its bytes come, and then the rest of the line

more_came : (purpose : Purpose) (folders : List Folder) (sent bytes had text : List ℕ) (kept : Bool) (a : PendingLiteral) → length bytes ≤ a.due → had ++ bytes ≡ text → IsBegunFor purpose folders sent a had → IsBegunFor purpose folders (sent ++ bytes) (taking kept bytes a) text
more_came (Message mailbox flags date) folders sent bytes had text kept a few all b = record {
  front = b.front;
  bytes = b.bytes;
  line = b.line;
  append = b.append;
  spelled = b.spelled;
  reads = b.reads;
  named = b.named;
  flags = b.flags;
  date = b.date;
  size = omega (arith, b.size, few, ap length all, length-append had bytes);
  whole = longer b.front (b.bytes ++ crlf) sent bytes had text b.whole all;
}
more_came (Argument before) folders sent bytes had text kept a few all b = record {
  front = b.front;
  bytes = b.bytes;
  line = b.line;
  found = b.found;
  spelled = b.spelled;
  announces = b.announces;
  cut = b.cut;
  size = omega (arith, b.size, few, ap length all, length-append had bytes);
  whole = longer b.front (b.bytes ++ crlf) sent bytes had text b.whole all;
}
more_came (Response before) folders sent bytes had text kept a few all b = record {
  front = b.front;
  bytes = b.bytes;
  tag = b.tag;
  command = b.command;
  spelled = b.spelled;
  reads = b.reads;
  size = omega (arith, b.size, few, ap length all, length-append had bytes);
  whole = longer b.front (b.bytes ++ crlf) sent bytes had text b.whole all;
}

bytes_come : (folders : List Folder) (sent bytes : List ℕ) (kept : Bool) (a : PendingLiteral) → length bytes ≤ a.due → IsBegunAs folders sent a → IsBegunAs folders (sent ++ bytes) (taking kept bytes a)
bytes_come folders sent bytes kept a few h text is = by kept a.text refl is
  where
    by : (b : Bool) (o : Option (List ℕ)) → a.text ≡ o → kept_text b bytes o ≡ Some text → IsBegunFor a.purpose folders (sent ++ bytes) (taking kept bytes a) text
    by true None t e = absurd (none-some text e)
    by false None t e = absurd (none-some text e)
    by false (Some had) t e = absurd (none-some text e)
    by true (Some had) t e = more_came a.purpose folders sent bytes had text kept a few (ap (the_text text) e) (h had t)

rest_comes : (folders : List Folder) (sent line : List ℕ) (a : PendingLiteral) (to : Option ℕ) (with : Flags) (dated : Option Stamp) (now next : Standing) → Mailed folders sent now → next.folders ≡ now.folders → now.mailing.begun ≡ Some a → a.purpose ≡ Message to with dated → a.due ≡ 0
    → IsMail (ForItsVerdict a (length line == 0)) a.tag (without_begun now).mailing next.mailing → Mailed folders (sent ++ (line ++ crlf)) next
rest_comes folders sent line a to with dated now next m same begun purpose due (inl e) = same_mail folders sent (line ++ crlf) now next m same (ap (λ (x : Mailing). x.sent) e) (ap (λ (x : Mailing). x.begun) e)
rest_comes folders sent line a to with dated now next m same begun purpose due (inr (ForDone, p, e)) = absurd p
rest_comes folders sent line a to with dated now next m same begun purpose due (inr (ForNothing, p, e)) = absurd p
rest_comes folders sent line a to with dated now next m same begun purpose due (inr (ForLiteral coming q size, p, e)) = absurd p
rest_comes folders sent line a to with dated now next m same begun purpose due (inr (ForVerdict origin mailbox flags text, p, e)) =
    let h : IsBegunAs folders sent a = subst (λ (o : Option PendingLiteral). IfSome o (IsBegunAs folders sent)) begun m.begun in
    let b : MessageWith folders sent to with dated a text.bytes = subst (λ (q : Purpose). IsBegunFor q folders sent a text.bytes) purpose (h text.bytes p.2) in
    let empty : line ≡ [] = no_bytes line p.3 in
    let message : Sent = record { tag = a.tag; append = record { message = now.mailing.number; mailbox = mailbox; text = text; flags = flags }; origin = origin } in record {
      same = same ∙ m.same;
      begun = subst (λ (x : Mailing). IfSome x.begun (IsBegunAs folders (sent ++ (line ++ crlf)))) (sym e) tt;
      waits = subst (λ (x : Mailing). IfSome x.sent (CameAs folders (sent ++ (line ++ crlf)))) (sym e) (subst (λ (o : Origin). CameBy o folders (sent ++ (line ++ crlf)) message) (sym p.4) (record {
        front = b.front;
        bytes = b.bytes;
        line = b.line;
        behind = [];
        append = b.append;
        spelled = b.spelled;
        reads = b.reads;
        named = sym b.named ∙ sym (ap mailbox_for purpose) ∙ p.0;
        flags = p.1 ∙ ap flags_for purpose ∙ b.flags;
        date = p.5 ∙ ap date_for purpose ∙ b.date;
        size = omega (arith, b.size, due);
        whole = ap (λ (x : List ℕ). sent ++ (x ++ crlf)) empty ∙ ap (λ (x : List ℕ). x ++ crlf) b.whole ∙ sym (append-nil (((b.front ++ (b.bytes ++ crlf)) ++ text.bytes) ++ crlf));
      }));
    }

-- ---- what its client sent as a command

-- the rest of a line, behind what came before
rejoined : (front bytes text line : List ℕ) → ((front ++ bytes) ++ text) ++ (line ++ crlf) ≡ front ++ (((bytes ++ text) ++ line) ++ crlf)
rejoined front bytes text line = ap (λ (x : List ℕ). x ++ (line ++ crlf)) (append_assoc front bytes text) ∙ append_assoc front (bytes ++ text) (line ++ crlf) ∙ ap (λ (x : List ℕ). front ++ x) (sym (append_assoc (bytes ++ text) line crlf))

-- where it isn't given up, it is what was joined
joined_is : (text : Option (List ℕ)) (with : List ℕ → List ℕ) (whole : List ℕ) → if_kept (option_map with text) ≡ Some whole → (t : List ℕ) × (text ≡ Some t) × (with t ≡ whole)
joined_is None with whole e = absurd (none-some whole e)
joined_is (Some t) with whole e = (t, refl, by (nat_lt most_line (length (with t))) e)
  where
    by : (long : Bool) → (if long then None else Some (with t)) ≡ Some whole → with t ≡ whole
    by true e = absurd (none-some whole e)
    by false e = ap (the_text []) e

says_line : (folders : List Folder) (sent line whole : List ℕ) (now : Standing) → Mailed folders sent now → due_of now.mailing.begun ≡ 0 → whole_line now line ≡ Some whole → SaysLine (sent ++ (line ++ crlf)) whole
says_line folders sent line whole now m due e = behind now.mailing.begun now.idling m.begun due e
  where
    for : (a : PendingLiteral) (purpose : Purpose) → a.due ≡ 0 → ((text : List ℕ) → a.text ≡ Some text → IsBegunFor purpose folders sent a text) → whole_behind purpose a.text line ≡ Some whole → SaysLine (sent ++ (line ++ crlf)) whole
    for a (Message mailbox flags date) none h e = absurd (none-some whole e)
    for a (Argument before) none h e =
        let j = joined_is a.text (λ text. before ++ quoted text ++ line) whole e in
        let b = h j.0 j.1 in record {
          front = b.front;
          bytes = b.bytes ++ crlf ++ j.0 ++ line;
          spelled = subst (λ (x : List ℕ). IsSpelled (b.bytes ++ crlf ++ j.0 ++ line) x) (ap (λ (x : List ℕ). x ++ quoted j.0 ++ line) (sym b.cut) ∙ j.2)
              (with_literal b.bytes b.line b.found j.0 line b.spelled b.announces (omega (arith, b.size, none)));
          whole = ap (λ (x : List ℕ). x ++ (line ++ crlf)) b.whole ∙ rejoined b.front (b.bytes ++ crlf) j.0 line;
        }
    for a (Response before) none h e =
        let j = joined_is a.text (λ text. before ++ codes " " ++ response_in line) whole e in
        let b = h j.0 j.1 in
        let empty : j.0 ≡ [] = no_text j.0 (omega (arith, b.size)) in record {
          front = b.front;
          bytes = b.bytes ++ crlf ++ line;
          spelled = subst (λ (x : List ℕ). IsSpelled (b.bytes ++ crlf ++ line) x) j.2 (with_response b.bytes before b.tag b.command line b.spelled b.reads);
          whole = ap (λ (x : List ℕ). x ++ (line ++ crlf)) b.whole ∙ rejoined b.front (b.bytes ++ crlf) j.0 line
              ∙ ap (λ (t : List ℕ). b.front ++ ((((b.bytes ++ crlf) ++ t) ++ line) ++ crlf)) empty ∙ ap (λ (x : List ℕ). b.front ++ ((x ++ line) ++ crlf)) (append-nil (b.bytes ++ crlf));
        }

    behind : (begun : Option PendingLiteral) (idling : Option (List ℕ)) → IfSome begun (IsBegunAs folders sent) → due_of begun ≡ 0 → whole_in begun idling line ≡ Some whole → SaysLine (sent ++ (line ++ crlf)) whole
    behind None None h none e = record { front = sent; bytes = line; spelled = subst (λ (x : List ℕ). IsSpelled line x) (ap (the_text []) e) (as_it_stands line); whole = refl }
    behind None (Some tag) h none e = absurd (none-some whole e)
    behind (Some a) idling h none e = for a a.purpose none h e

-- ---- a turn

-- no more bytes come than are due, and no line while some are
abbrev pub ComesInTurn : Standing → Happening → Type 0
ComesInTurn now (Line line answers) = due_of now.mailing.begun ≡ 0
ComesInTurn now (Literal kept bytes) = length bytes ≤ due_of now.mailing.begun
ComesInTurn now happening = Unit {0}

-- a line that came as a command
text_mailed : (folders : List Folder) (sent bytes line : List ℕ) (now : Standing) (answers : List Answer) (turn : Turn) → Mailed folders sent now → SaysLine (sent ++ bytes) line → turn.standing.folders ≡ now.folders
    → on_text_line (without_begun now) line answers ≡ Some turn → Mailed folders (sent ++ bytes) turn.standing
text_mailed folders sent bytes line now answers turn m says same e =
    text_awaits (λ o. o ≡ Some turn → Mailed folders (sent ++ bytes) turn.standing) bare line answers
    (λ tag found f d. argument_begins folders sent bytes line tag found now turn.standing m same says f (argument_mail tag bare line found answers turn d))
    (λ tag a f d. response_begins folders sent bytes line tag tag a now turn.standing m same says f (response_mail tag bare line answers turn d)) (λ d. reads (read line) refl d) e
  where
    bare : Standing
    bare = without_begun now

    only : turn.standing.mailing ≡ bare.mailing → Mailed folders (sent ++ bytes) turn.standing
    only mailing = same_mail folders sent bytes now turn.standing m same (ap (λ (x : Mailing). x.sent) mailing) (ap (λ (x : Mailing). x.begun) mailing)

    said : (text : List ℕ) (answers : List Answer) → only_says text bare answers ≡ Some turn → Mailed folders (sent ++ bytes) turn.standing
    said text [] e = only (ap (λ (t : Turn). t.standing.mailing) (sym (ap (the_turn turn) e)))
    said text (a ∷ more) e = absurd (none-some turn e)

    reads : (found : Result (List ℕ × Command) ImapFault) → read line ≡ found → on_read bare found answers ≡ Some turn → Mailed folders (sent ++ bytes) turn.standing
    reads (Err fault) is e = said (fault_text now.profile fault) answers e
    reads (Ok l) is e =
        command_case l.1
        (λ append same_command.
        let as_append : on_line (logs_in_as now.login (commands.Append append)) bare l.0 (commands.Append append) answers ≡ Some turn = subst (λ (c : Command). on_line (logs_in_as now.login c) bare l.0 c answers ≡ Some turn) same_command e in
        append_begins folders sent bytes line l.0 append now turn.standing m same says (subst (λ (c : Command). read line ≡ Ok (l.0, c)) same_command is) (append_mail l.0 bare append answers turn as_append))
        (λ copy same_command.
        let as_copy : on_line (logs_in_as now.login (commands.Copy copy)) bare l.0 (commands.Copy copy) answers ≡ Some turn = subst (λ (c : Command). on_line (logs_in_as now.login c) bare l.0 c answers ≡ Some turn) same_command e in
        copy_waits folders sent bytes line l.0 copy now turn.standing m same says (subst (λ (c : Command). read line ≡ Ok (l.0, c)) same_command is) (copy_mail l.0 bare copy answers turn as_copy))
        (λ other. only (other_mail l.0 bare l.1 answers turn other e))

line_mailed : (folders : List Folder) (sent line : List ℕ) (now : Standing) (answers : List Answer) (turn : Turn) → Mailed folders sent now → due_of now.mailing.begun ≡ 0 → turn_of now line answers ≡ Some turn → Mailed folders (sent ++ (line ++ crlf)) turn.standing
line_mailed folders sent line now answers turn m due e =
    turn_given (λ whole o. o ≡ Some turn → Mailed folders (sent ++ (line ++ crlf)) turn.standing) now line answers
    (λ tag b i d. let mailing = idling_mail tag (record now { idling = None }) now.selected line answers turn d in
    same_mail folders sent (line ++ crlf) now turn.standing m same (ap (λ (x : Mailing). x.sent) mailing) (ap (λ (x : Mailing). x.begun) mailing ∙ b))
    (λ a mailbox flags date b p d. rest_comes folders sent line a mailbox flags date now turn.standing m same b p (sym (ap due_of b) ∙ due) (rest_mail (without_begun now) now.mailing a (length line == 0) answers turn d))
    (λ a told parting b t p d. let mailing = given_mail a.tag (without_begun now) line told parting answers turn d in
    same_mail folders sent (line ++ crlf) now turn.standing m same (ap (λ (x : Mailing). x.sent) mailing) (ap (λ (x : Mailing). x.begun) mailing))
    (λ whole w d. text_mailed folders sent (line ++ crlf) whole now answers turn m (says_line folders sent line whole now m due w) same d) e
  where
    same : turn.standing.folders ≡ now.folders
    same = line_folders now line answers turn e

-- the next message of a batch, behind one whose copy was stored, came by the same command
next_came : (folders : List Folder) (sent : List ℕ) (s : Sent) (verdict : Verdict) (number to : ℕ) (flags : Flags) (text : Text) (next : Origin) → CameAs folders sent s → IsNext s.origin verdict next flags text → to ≡ s.append.mailbox
    → CameAs folders sent (record { tag = s.tag; append = record { message = number; mailbox = to; text = text; flags = flags }; origin = next })
next_came folders sent s verdict number to flags text next came n same =
    let h : IsCopyOf folders sent s n.batch = subst (λ (o : Origin). CameBy o folders sent s) n.was came in
    let message : Sent = record { tag = s.tag; append = record { message = number; mailbox = to; text = text; flags = flags }; origin = next } in
    subst (λ (o : Origin). CameBy o folders sent message) (sym n.is) (record {
      front = h.front;
      bytes = h.bytes;
      line = h.line;
      behind = h.behind;
      copy = h.copy;
      view = h.view;
      uids = h.uids;
      spelled = h.spelled;
      reads = h.reads;
      named = h.named ∙ ap (λ (x : ℕ). Some x) (sym same);
      by_uid = h.by_uid;
      moves = h.moves;
      set = h.set;
      some = h.some;
      all = h.all;
      place = omega (arith, h.place, ap (length {A = Row}) n.there, length-append n.batch.copies (n.uid ∷ []));
      whole = h.whole;
    })

-- nothing is awaited behind a verdict, or the next message of the batch is
verdict_waits : (folders : List Folder) (sent bytes : List ℕ) (s : Sent) (verdict : Verdict) (now next : Standing) → Mailed folders sent now → CameAs folders sent s → next.folders ≡ now.folders
    → IsMail (ForTheNext s.origin s.append.mailbox verdict) s.tag (without_sent now).mailing next.mailing → Mailed folders (sent ++ bytes) next
verdict_waits folders sent bytes s verdict now next m came same (inl e) = record {
  same = same ∙ m.same;
  begun = subst (λ (x : Mailing). IfSome x.begun (IsBegunAs folders (sent ++ bytes))) (sym e) tt;
  waits = subst (λ (x : Mailing). IfSome x.sent (CameAs folders (sent ++ bytes))) (sym e) tt;
}
verdict_waits folders sent bytes s verdict now next m came same (inr (ForDone, p, e)) = absurd p
verdict_waits folders sent bytes s verdict now next m came same (inr (ForNothing, p, e)) = absurd p
verdict_waits folders sent bytes s verdict now next m came same (inr (ForLiteral coming q size, p, e)) = absurd p
verdict_waits folders sent bytes s verdict now next m came same (inr (ForVerdict origin to flags text, p, e)) =
    let message : Sent = record { tag = s.tag; append = record { message = now.mailing.number; mailbox = to; text = text; flags = flags }; origin = origin } in record {
      same = same ∙ m.same;
      begun = subst (λ (x : Mailing). IfSome x.begun (IsBegunAs folders (sent ++ bytes))) (sym e) tt;
      waits = subst (λ (x : Mailing). IfSome x.sent (CameAs folders (sent ++ bytes))) (sym e)
          (sent_more folders sent bytes message (next_came folders sent s verdict now.mailing.number to flags text origin came p.0 p.1));
    }

pub mail_turn : (k : Config) (n : ℕ) (folders : List Folder) (sent bytes : List ℕ) (now : Standing) (w : World) (happening : Happening) (turn : Turn) (v : World) → Mailed folders sent now → ComesInTurn now happening → IsSentFor happening bytes
    → leads_to now happening ≡ Some turn → Met (Calls k n) w turn.events v → Mailed folders (sent ++ bytes) turn.standing
mail_turn k n folders sent bytes now w (Line line answers) turn v m due is e met = subst (λ (x : List ℕ). Mailed folders (sent ++ x) turn.standing) (sym is) (line_mailed folders sent line now answers turn m due e)
mail_turn k n folders sent bytes now w LongLine turn v m due is e met =
    subst (λ (t : Turn). Mailed folders (sent ++ bytes) t.standing) (ap (the_turn turn) e) (same_mail folders sent bytes now (without_begun now) m refl refl refl)
mail_turn k n folders sent bytes now w (Turned answers) turn v m due is e met =
    let i : IdleTurns (Calls k n) now w v [] turn.bytes _ turn.standing = record { answers = answers; events = turn.events; bytes = turn.bytes; how = turn.after; played = e; met = met; wrote = refl; shown = refl } in
    let mailing = idles_keep (Calls k n) now w v [] turn.bytes _ turn.standing i in
    subst (λ (x : List ℕ). Mailed folders x turn.standing) (sym (ap (λ (x : List ℕ). sent ++ x) is ∙ append-nil sent)) (record {
      same = idle_folders now.selected (is_idling now) now answers turn e ∙ m.same;
      begun = subst (λ (x : Mailing). IfSome x.begun (IsBegunAs folders sent)) (sym mailing) m.begun;
      waits = subst (λ (x : Mailing). IfSome x.sent (CameAs folders sent)) (sym mailing) m.waits;
    })
mail_turn k n folders sent bytes now w (Literal kept literal) turn v m few is e met =
    subst (λ (t : Turn). Mailed folders (sent ++ bytes) t.standing) (ap (the_turn turn) e)
    (subst (λ (x : List ℕ). Mailed folders (sent ++ x) (with_bytes kept literal now)) (sym is) (record { same = m.same; begun = by now.mailing.begun few m.begun; waits = waits_more folders sent literal now.mailing.sent m.waits }))
  where
    by : (o : Option PendingLiteral) → length literal ≤ due_of o → IfSome o (IsBegunAs folders sent) → IfSome (option_map (taking kept literal) o) (IsBegunAs folders (sent ++ literal))
    by None few h = tt
    by (Some a) few h = bytes_come folders sent literal kept a few h
mail_turn k n folders sent bytes now w (Heard verdict answers) turn v m due is e met = by now.mailing.sent m.waits e
  where
    by : (o : Option Sent) → IfSome o (CameAs folders sent) → turn_with o now verdict answers ≡ Some turn → Mailed folders (sent ++ bytes) turn.standing
    by None came e = absurd (none-some turn e)
    by (Some s) came e =
        verdict_waits folders sent bytes s verdict now turn.standing m came (heard_folders (Some s) now verdict answers turn e)
        (verdict_mail s.tag (without_sent now) now.mailing now.selected s.origin s.append.mailbox verdict answers turn e)
