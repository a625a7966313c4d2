-- Worked examples: whole strings, and what is heard of them.
use Rattle.std.specs.Prelude.{codes}
use Rattle.std.proofs.Common.{false, inl, inr, ℕ, List, [], ◌∷◌, ◌++◌, None, refl}
use Rattle.delivery_token.specs.Text.{undated}
use Rattle.delivery_token.specs.declared.Verdict.TheVariants.{Stored}
use Rattle.envelope.specs.Names.{Directory}
use Rattle.envelope.specs.Reading.{read, forward_at}
use Rattle.lmtp_machine.specs.declared.reply.Reply.TheVariants.{Greeting, Extensions, SenderOk, RecipientOk, StartInput, Okay, Bye, Delivered, OutOfMemory}
use Rattle.lmtp_machine.specs.Dialogue.{Ended, Line, Starved, Answered, Setting, Submission}
use Rattle.running_house.specs.Woven.{IsWholeDialogue, none, line, submits}

abbrev pub alice : Directory
alice = record { domains = codes "example.org" ∷ []; homes = record { user = codes "alice"; folder = None } ∷ []; shards = 1; shut = false ∷ [] }

-- the fifth connection of seat 3
abbrev pub fifth : Setting
fifth = record { seat = 3; serial = 4; max_message = 1000 }

two_lines_of_one_string : IsWholeDialogue fifth alice (codes "NOOP\r\nQUIT\r\n") (Greeting ∷ Okay ∷ Bye ∷ []) []
unfolding read forward_at
two_lines_of_one_string = record {
  lines = codes "NOOP" ∷ codes "QUIT" ∷ [];
  unheard = [];
  events = Line (codes "NOOP") ∷ Line (codes "QUIT") ∷ [];
  last = record { phase = Ended; submitted = 0 };
  whole = refl;
  woven = line (codes "NOOP") (Line (codes "NOOP")) refl tt refl (line (codes "QUIT") (Line (codes "QUIT")) refl tt refl none);
  replies = refl;
  messages = refl;
  stands = refl;
  ended = inl refl;
}

-- nothing behind QUIT is heard, nor what comes of a line
lines_behind_quit : IsWholeDialogue fifth alice (codes "QUIT\r\nNOOP\r\nNO") (Greeting ∷ Bye ∷ []) []
unfolding read forward_at
lines_behind_quit = record {
  lines = codes "QUIT" ∷ [];
  unheard = codes "NOOP" ∷ [];
  events = Line (codes "QUIT") ∷ [];
  last = record { phase = Ended; submitted = 0 };
  whole = refl;
  woven = line (codes "QUIT") (Line (codes "QUIT")) refl tt refl none;
  replies = refl;
  messages = refl;
  stands = refl;
  ended = inr refl;
}

-- ---- a message to one recipient, and QUIT, all in one string

abbrev beginning : List (List ℕ)
beginning = codes "LHLO c.example" ∷ codes "MAIL FROM:<s@a.example>" ∷ codes "RCPT TO:<alice@example.org>" ∷ codes "DATA" ∷ codes "hi" ∷ []

abbrev one_message : List ℕ
one_message = codes "LHLO c.example\r\nMAIL FROM:<s@a.example>\r\nRCPT TO:<alice@example.org>\r\nDATA\r\nhi\r\n.\r\nQUIT\r\n"

abbrev message : Submission
message = record {
  keys = record { seat = 3; serial = 4; message = 0; recipient = 0 } ∷ [];
  mailboxes = 0 ∷ [];
  text = undated (codes "Return-Path: <s@a.example>\r\nhi\r\n");
}

-- the answer stands between the dot and QUIT
a_message_is_answered : IsWholeDialogue fifth alice one_message (Greeting ∷ Extensions ∷ SenderOk ∷ RecipientOk ∷ StartInput ∷ Delivered ∷ Bye ∷ []) (record { message = message; verdicts = Stored 7 ∷ [] } ∷ [])
unfolding read forward_at
a_message_is_answered = record {
  lines = beginning ++ codes "." ∷ codes "QUIT" ∷ [];
  unheard = [];
  events = Line (codes "LHLO c.example") ∷ Line (codes "MAIL FROM:<s@a.example>") ∷ Line (codes "RCPT TO:<alice@example.org>") ∷ Line (codes "DATA") ∷ Line (codes "hi")
      ∷ Line (codes ".") ∷ Answered (Stored 7 ∷ []) ∷ Line (codes "QUIT") ∷ [];
  last = record { phase = Ended; submitted = 1 };
  whole = refl;
  woven = line (codes "LHLO c.example") (Line (codes "LHLO c.example")) refl tt refl (line (codes "MAIL FROM:<s@a.example>") (Line (codes "MAIL FROM:<s@a.example>")) refl tt refl
      (line (codes "RCPT TO:<alice@example.org>") (Line (codes "RCPT TO:<alice@example.org>")) refl tt refl (line (codes "DATA") (Line (codes "DATA")) refl tt refl (line (codes "hi") (Line (codes "hi")) refl tt refl
      (submits (codes ".") (Line (codes ".")) message (Stored 7 ∷ []) refl tt refl refl (line (codes "QUIT") (Line (codes "QUIT")) refl tt refl none))))));
  replies = refl;
  messages = refl;
  stands = refl;
  ended = inl refl;
}

-- the same string, where memory for the text was refused: nothing is submitted, and the dot is answered
memory_is_refused : IsWholeDialogue fifth alice one_message (Greeting ∷ Extensions ∷ SenderOk ∷ RecipientOk ∷ StartInput ∷ OutOfMemory ∷ Bye ∷ []) []
unfolding read forward_at
memory_is_refused = record {
  lines = beginning ++ codes "." ∷ codes "QUIT" ∷ [];
  unheard = [];
  events = Line (codes "LHLO c.example") ∷ Line (codes "MAIL FROM:<s@a.example>") ∷ Line (codes "RCPT TO:<alice@example.org>") ∷ Line (codes "DATA") ∷ Line (codes "hi")
      ∷ Starved ∷ Line (codes "QUIT") ∷ [];
  last = record { phase = Ended; submitted = 0 };
  whole = refl;
  woven = line (codes "LHLO c.example") (Line (codes "LHLO c.example")) refl tt refl (line (codes "MAIL FROM:<s@a.example>") (Line (codes "MAIL FROM:<s@a.example>")) refl tt refl
      (line (codes "RCPT TO:<alice@example.org>") (Line (codes "RCPT TO:<alice@example.org>")) refl tt refl (line (codes "DATA") (Line (codes "DATA")) refl tt refl (line (codes "hi") (Line (codes "hi")) refl tt refl
      (line (codes ".") Starved refl tt refl (line (codes "QUIT") (Line (codes "QUIT")) refl tt refl none))))));
  replies = refl;
  messages = refl;
  stands = refl;
  ended = inl refl;
}
