use Rattle.tests_mail.proofs.tests.locked_mailboxes.each_call_on_a_locked_mailbox_answers_as_its_table_tells.Given as goal

-- the history that was just opened
abbrev pub ghosts-plays : goal.ghosts-plays
ghosts-plays g a = record { book = a.opened }
