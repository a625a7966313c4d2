use Rattle.std.proofs.Common.{◌∙◌, ap, refl, subst, sym}
use Rattle.std.specs.Str.Parse.{digits_value}
use Rattle.hex.specs.Hex.{decode_of}
use Rattle.std.proofs.lemmas.Result.{on_err_weaker, on_ok_weaker}
use Rattle.script.specs.Leaving.{LineWanting}
use Rattle.script.specs.Script.{Asks, ScriptLine, Sends, held_after}
use Rattle.script.specs.inner.Running.{LineDone}
use Rattle.script.proofs.RunLaws.{freed_done, held_done, hex_holds_nothing, refused, skipped}
use Rattle.script.proofs.run.do_line.Goals as goal

pub returns-in-Skip-clause-done : goal.returns-in-Skip-clause-done
returns-in-Skip-clause-done c k s st many =
    subst (λ (l : ScriptLine). LineDone k c.args.number l s c.args.house.now c.args.out.now.items c.args.out.now.items) c.in-Skip.ensures.reads (skipped k c.args.number s c.args.house.now c.args.out.now.items st)

pub returns-in-Bad-clause-done : goal.returns-in-Bad-clause-done
returns-in-Bad-clause-done c =
    on_ok_weaker c.refuse.result
    (λ e k s st many. subst (λ (l : ScriptLine). LineDone k c.args.number l s c.args.house.now c.args.out.now.items c.refuse.new.out.items) c.in-Bad.ensures.reads (refused k c.args.number s c.args.house.now c.args.out.now.items c.refuse.new.out.items st e))
    c.refuse.ensures.ok

pub returns-in-SaysInHex-clause-done : goal.returns-in-SaysInHex-clause-done
returns-in-SaysInHex-clause-done c =
    on_ok_weaker c.hear_hex.result
    (λ e k s st many. subst (λ (l : ScriptLine). LineDone k c.args.number l s c.hear_hex.new.house c.args.out.now.items c.hear_hex.new.out.items) c.in-SaysInHex.ensures.reads (e k s st))
    c.hear_hex.ensures.done

pub returns-in-SaysInHex-clause-held : goal.returns-in-SaysInHex-clause-held
returns-in-SaysInHex-clause-held c =
    on_ok_weaker c.hear_hex.result (λ f. sym (ap (held_after c.args.held.now.items) (sym c.in-SaysInHex.ensures.reads) ∙ hex_holds_nothing c.args.held.now.items (Sends c.in-SaysInHex.connection) (decode_of c.in-SaysInHex.digits.now) (λ bytes. refl))) c.hear_hex.ensures.done

pub returns-in-AsksInHex-clause-done : goal.returns-in-AsksInHex-clause-done
returns-in-AsksInHex-clause-done c =
    on_ok_weaker c.ask_hex.result
    (λ e k s st many. subst (λ (l : ScriptLine). LineDone k c.args.number l s c.ask_hex.new.house c.args.out.now.items c.ask_hex.new.out.items) c.in-AsksInHex.ensures.reads (e k s st))
    c.ask_hex.ensures.done

pub returns-in-AsksInHex-clause-held : goal.returns-in-AsksInHex-clause-held
returns-in-AsksInHex-clause-held c =
    on_ok_weaker c.ask_hex.result (λ f. sym (ap (held_after c.args.held.now.items) (sym c.in-AsksInHex.ensures.reads) ∙ hex_holds_nothing c.args.held.now.items (Asks c.in-AsksInHex.session) (decode_of c.in-AsksInHex.digits.now) (λ bytes. refl))) c.ask_hex.ensures.done

pub returns-in-Closes-clause-done : goal.returns-in-Closes-clause-done
returns-in-Closes-clause-done c =
    on_ok_weaker c.close_shard.result
    (λ e k s st many. subst (λ (l : ScriptLine). LineDone k c.args.number l s c.close_shard.new.house c.args.out.now.items c.close_shard.new.out.items) c.in-Closes.ensures.reads (e k s st))
    c.close_shard.ensures.done

pub returns-in-Closes-clause-wanting : goal.returns-in-Closes-clause-wanting
returns-in-Closes-clause-wanting c =
    on_err_weaker c.close_shard.result (λ w k s st. subst (λ (l : ScriptLine). LineWanting k l s c.close_shard.new.house) c.in-Closes.ensures.reads (w k s st)) c.close_shard.ensures.wanting

pub returns-in-Hold-clause-done : goal.returns-in-Hold-clause-done
returns-in-Hold-clause-done c =
    on_ok_weaker c.set_held.result
    (λ e k s st many. subst (λ (l : ScriptLine). LineDone k c.args.number l s c.args.house.now c.args.out.now.items c.set_held.new.out.items) c.in-Hold.ensures.reads
    (held_done k c.args.number s c.args.held.now.items c.set_held.new.held.items (digits_value 10 c.in-Hold.digits.now) c.args.house.now c.args.out.now.items c.set_held.new.out.items st many e))
    c.set_held.ensures.sets

pub returns-in-Free-clause-done : goal.returns-in-Free-clause-done
returns-in-Free-clause-done c =
    on_ok_weaker c.set_held-in-Free.result
    (λ e k s st many. subst (λ (l : ScriptLine). LineDone k c.args.number l s c.args.house.now c.args.out.now.items c.set_held-in-Free.new.out.items) c.in-Free.ensures.reads
    (freed_done k c.args.number s c.args.held.now.items c.set_held-in-Free.new.held.items (digits_value 10 c.in-Free.digits.now) c.args.house.now c.args.out.now.items c.set_held-in-Free.new.out.items st many e))
    c.set_held-in-Free.ensures.sets

pub returns-in-Says-clause-wanting : goal.returns-in-Says-clause-wanting
returns-in-Says-clause-wanting c =
    on_err_weaker c.hear_line.result (λ w k s st. subst (λ (l : ScriptLine). LineWanting k l s c.hear_line.new.house) c.in-Says.ensures.reads (w k s st)) c.hear_line.ensures.wanting

pub returns-in-SaysInHex-clause-wanting : goal.returns-in-SaysInHex-clause-wanting
returns-in-SaysInHex-clause-wanting c =
    on_err_weaker c.hear_hex.result (λ w k s st. subst (λ (l : ScriptLine). LineWanting k l s c.hear_hex.new.house) c.in-SaysInHex.ensures.reads (w k s st)) c.hear_hex.ensures.wanting

pub returns-in-Vanishes-clause-wanting : goal.returns-in-Vanishes-clause-wanting
returns-in-Vanishes-clause-wanting c =
    on_err_weaker c.do_event.result (λ w k s st. subst (λ (l : ScriptLine). LineWanting k l s c.do_event.new.house) c.in-Vanishes.ensures.reads (w k s st)) c.do_event.ensures.wanting

pub returns-in-Enters-clause-wanting : goal.returns-in-Enters-clause-wanting
returns-in-Enters-clause-wanting c =
    on_err_weaker c.do_event-in-Enters.result (λ w k s st. subst (λ (l : ScriptLine). LineWanting k l s c.do_event-in-Enters.new.house) c.in-Enters.ensures.reads (w k s st)) c.do_event-in-Enters.ensures.wanting

pub returns-in-Asks-clause-wanting : goal.returns-in-Asks-clause-wanting
returns-in-Asks-clause-wanting c =
    on_err_weaker c.ask_line.result (λ w k s st. subst (λ (l : ScriptLine). LineWanting k l s c.ask_line.new.house) c.in-Asks.ensures.reads (w k s st)) c.ask_line.ensures.wanting

pub returns-in-AsksInHex-clause-wanting : goal.returns-in-AsksInHex-clause-wanting
returns-in-AsksInHex-clause-wanting c =
    on_err_weaker c.ask_hex.result (λ w k s st. subst (λ (l : ScriptLine). LineWanting k l s c.ask_hex.new.house) c.in-AsksInHex.ensures.reads (w k s st)) c.ask_hex.ensures.wanting

pub returns-in-Leaves-clause-wanting : goal.returns-in-Leaves-clause-wanting
returns-in-Leaves-clause-wanting c =
    on_err_weaker c.do_event-in-Leaves.result (λ w k s st. subst (λ (l : ScriptLine). LineWanting k l s c.do_event-in-Leaves.new.house) c.in-Leaves.ensures.reads (w k s st)) c.do_event-in-Leaves.ensures.wanting
