-- A whole talk, one turn behind the other.
use Rattle.std.proofs.Common.{◌≡◌, ℕ, true, List, ◌∷◌, ap, sym, refl, subst, []}
use Rattle.std.specs.Prelude.{Option, Some, None, IfSome}
use Rattle.imap_session.specs.Exchange.{Standing, Turn, PendingLiteral, is_idling, may_send}
use Rattle.imap_session.specs.Happenings.{kept_behind, Happening, Heard, Line, Literal, LongLine, Turned, leads_to}
use Rattle.imap_session.specs.Commands.{turn_of_long_line, with_bytes}
use Rattle.laws_client.specs.Beliefs.{Follows, Leads}
use Rattle.laws_client.specs.Clients.{IsOf}
use Rattle.laws_client.specs.ListLaws.{TalkIsFollowed}
use Rattle.laws_client.specs.Talks.{MayHappen}
use Rattle.laws_client.specs.ListTurns.{AreTags, IsTag, SeesAll}
use Rattle.laws_client.proofs.Commands.{answer_is_followed, long_line_tells_nothing, verdict_is_followed}
use Rattle.laws_client.proofs.Ends.{leaves}
use Rattle.exactly_once.proofs.EachExchange.{idle_keeps}
use Rattle.laws_client.proofs.IdleTags.{AreTagsOf, Kept, bytes_keep, line_keeps, verdict_keeps}
use Rattle.laws_client.proofs.Tags.{word_is_tag}
use Rattle.imap_grammar.specs.Bytes.{is_tag}
use Rattle.imap_grammar.specs.Items.{is_word_of}
use Rattle.laws_client.proofs.IdleTurns.{idle_turn_is_followed}
use Rattle.laws_client.proofs.Turns.{rests_in, the_turn, then_follows}

-- whatever holds of all words of tags
pub happening_keeps_so : (P : List ℕ → Type 0) → ((tag : List ℕ) → is_word_of is_tag tag ≡ true → P tag) → (now : Standing) (happening : Happening) (turn : Turn) → AreTagsOf P now → leads_to now happening ≡ Some turn → Kept (AreTagsOf P) turn
happening_keeps_so P make now (Line line answers) turn k e = line_keeps P make now line answers turn k e
happening_keeps_so P make now LongLine turn k e = subst (λ (s : Turn). Kept (AreTagsOf P) s) (ap (the_turn turn) e) (tt, tt, k.2)
happening_keeps_so P make now (Turned answers) turn k e = idle_keeps (AreTagsOf P) now.selected (is_idling now) now answers turn k k e
happening_keeps_so P make now (Literal kept bytes) turn k e = subst (λ (s : Turn). Kept (AreTagsOf P) s) (ap (the_turn turn) e) (bytes_keep P now kept bytes k)
happening_keeps_so P make now (Heard verdict answers) turn k e = verdict_keeps P now verdict answers turn k e

pub happening_keeps : (now : Standing) (view : List ℕ) (happening : Happening) (turn : Turn) → AreTags now → leads_to now happening ≡ Some turn → Kept (AreTagsOf IsTag) turn
happening_keeps now view happening turn k e = happening_keeps_so IsTag word_is_tag now happening turn k e

pub kept_is_tag : (begun : Option PendingLiteral) (idling : Option (List ℕ)) → IfSome begun (λ a. IsTag a.tag) → IfSome idling IsTag → IfSome (kept_behind begun idling) IsTag
kept_is_tag None idling b i = i
kept_is_tag (Some a) idling b i = b

long_follows : (now : Standing) (view : List ℕ) (turn : Turn) (new : List ℕ) → AreTags now → Some (turn_of_long_line now) ≡ Some turn → SeesAll view turn.events new → Leads view turn.bytes new
long_follows now view turn new k e sees =
    let same : turn_of_long_line now ≡ turn = ap (the_turn turn) e in
    let s : new ≡ view = subst (λ (t : Turn). SeesAll view t.events new) (sym same) sees in
    subst (λ (t : Turn). Leads view t.bytes new) same (subst (λ (v : List ℕ). Leads view (turn_of_long_line now).bytes v) (sym s) (leaves view (turn_of_long_line now).bytes (long_line_tells_nothing now (kept_is_tag now.mailing.begun now.idling k.1 k.0))))

pub happening_follows : (now : Standing) (view : List ℕ) (happening : Happening) (turn : Turn) (new : List ℕ) → AreTags now → MayHappen now view happening → leads_to now happening ≡ Some turn
    → SeesAll view turn.events new → Leads view turn.bytes new
happening_follows now view (Line line answers) turn new k may e sees = answer_is_followed now line view answers turn new (kept_is_tag now.mailing.begun now.idling k.1 k.0, may) e sees
happening_follows now view LongLine turn new k may e sees = long_follows now view turn new k e sees
happening_follows now view (Turned answers) turn new k may e sees = idle_turn_is_followed view now answers turn new e sees
happening_follows now view (Literal kept bytes) turn new k may e sees = rests_in view (may_send (with_bytes kept bytes now)) (with_bytes kept bytes now) turn new e sees
happening_follows now view (Heard verdict answers) turn new k may e sees = verdict_is_followed now verdict view answers turn new k.2 may e sees

pub talk_is_followed : TalkIsFollowed
talk_is_followed now view [] bytes new k talk list right =
    subst (λ (b : List ℕ). Follows IsOf list b new) (sym talk.0) (subst (λ (v : List ℕ). Follows IsOf list [] v) (sym talk.1) (record { after = list; reads = refl; each = right }))
talk_is_followed now view (happening ∷ more) bytes new k (turn, mid, rest, may, e, sees, is, talk) list right =
    let f = happening_follows now view happening turn mid k may e sees list right in
    let g = talk_is_followed turn.standing mid more rest new (happening_keeps now view happening turn k e) talk f.after f.each in
    subst (λ (b : List ℕ). Follows IsOf list b new) (sym is) (then_follows list turn.bytes rest mid new f g)
