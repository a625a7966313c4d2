use Rattle.tests_mail.proofs.tests.locked_mailboxes.a_copy_behind_a_later_one_of_its_seat_is_refused.Given as goal

-- the history that was just opened
abbrev pub ghosts-plays : goal.ghosts-plays
ghosts-plays g a = record { book = a.opened }
