-- What bodies and proofs say besides: what happens to a dialogue that speaks LMTP, by the events of that.
use Rattle.std.specs.Prelude.{ℕ, [], ◌++◌}
use Rattle.lmtp_machine.specs.Dialogue.{wire, on_event}
use Rattle.lmtp_machine.specs.Dialogue as dialogue
use Rattle.lmtp_machine.specs.Conversation.{led_by}
use Rattle.house_peers.specs.Caller.{Caller, Terms, setting_of}

-- something that isn't a line happens to the dialogue, before more is worked off
abbrev pub meets : Terms → ℕ → Caller → dialogue.Event → Caller
meets k seat b event =
    let setting = setting_of k seat b.serial in
    record {
      serial = b.serial;
      gone = b.gone;
      to_put = [];
      talk = record {
        at = led_by setting k.directory b.talk.at event;
        waits = b.talk.waits;
        unsaid = b.talk.unsaid ++ wire k.host (on_event setting k.directory b.talk.at.standing event).replies;
        pending = [];
      };
    }
