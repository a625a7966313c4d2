-- Connections one after another, and a worker's account.
use Rattle.std.proofs.Common.{◌≡◌, ℕ, ◌+◌, ◌<◌, ◌++◌, ◌∙◌, ap, refl, sym, subst, List, [], ◌∷◌, length, map, slice_index_or, take, Vec, arith, zero, suc, All}
use Rattle.std.specs.Global.{Global}
use Rattle.std.proofs.lemmas.List.{map-append, length-map, length-take-le}
use Rattle.std.proofs.lemmas.List.Elements.{All-head, All-tail}
use Rattle.delivery_token.specs.declared.Job.{Job}
use Rattle.delivery_token.specs.declared.Verdict.{Verdict}
use Rattle.delivery_token.specs.declared.log.Noted.{Noted}
use Rattle.shard_queue.specs.declared.lane.Entry.{Entry}
use Rattle.shard_queue.specs.declared.lane.Entry.TheVariants.{End}
use Rattle.lane_work.specs.declared.desk.LanePermit.{LanePermit}
use Rattle.lane_work.specs.Permits.{IsNew, put_by}
use Rattle.shard_queue.specs.Shared.{IsStartOf}
use Rattle.envelope.specs.Names.{Directory}
use Rattle.lane_work.specs.Talk.{Judged, WholeTalk}
use Rattle.lane_work.specs.Account.{Room, none, room_at, told, Account, AreAccountedFor, AreBooks, AreBooksOf, HaveEnded, HaveTalked, IsMarkedBy, Premises, closings_of, next, notes_tell, setting_at}
use Rattle.lane_work.specs.inner.Account.{HasServed}
use Rattle.lane_work.specs.Account as account
use Rattle.lane_work.specs.inner.Speaking.{Spoke}
use Rattle.lane_work.proofs.CopyLaws.{take_next, were_put_later}

pub served_next : (house : Premises) (p : ℕ) (connections replies : List (List ℕ)) (bytes reply : List ℕ) (serial : ℕ) (keeps more : List (Job × Verdict) → Type 0) (heard hears : List (Entry Noted)) (before after : List (List (Entry Job)))
    → serial ≡ length connections
    → HasServed house p connections replies keeps heard before
    → (own : Directory) → IsMarkedBy (closings_of house p) serial house.directory own
    → ((done : List Judged) → AreBooks house.directory house.rooms p done keeps heard before → Spoke own house.directory house.rooms p done bytes (setting_at house p serial) house.host reply more hears after)
    → HasServed house p (connections ++ bytes ∷ []) (replies ++ reply ∷ []) more hears after
served_next house p connections replies bytes reply serial keeps more heard hears before after is served own marked speaks =
    let s = speaks served.judged served.books in
    record {
      judged = served.judged ++ s.judged;
      talked = subst (λ (r : List ℕ). HaveTalked house p (connections ++ bytes ∷ []) (replies ++ r ∷ []) (served.judged ++ s.judged)) (sym s.replies)
          (next bytes own s.said s.judged served.talked (subst (λ n. IsMarkedBy (closings_of house p) n house.directory own) is marked) (subst (λ n. WholeTalk (setting_at house p n) own bytes s.said s.judged) is s.talk));
      books = s.books;
    }

-- before the first connection
pub books_begin : (d : Directory) (rooms : List Room) (p : ℕ) (notes : List Noted) (heard : List (Entry Noted)) (ss : List (LanePermit Job)) → notes ≡ [] → All IsNew ss → AreBooks d rooms p [] (notes_tell notes) heard (map put_by ss)
books_begin d rooms p notes heard ss is each = record { noted = is; lanes = λ lane under. ([], none, nothing_sent ss each lane) } where
  nothing_sent : (xs : List (LanePermit Job)) → All IsNew xs → (lane : ℕ) → slice_index_or (map put_by xs) lane [] ≡ []
  nothing_sent [] h lane = refl
  nothing_sent (x ∷ xs) h zero = (All-head IsNew x xs h).0
  nothing_sent (x ∷ xs) h (suc lane) = nothing_sent xs (All-tail IsNew x xs h) lane

at_end : (p : ℕ) (xs : List (List (Entry Job))) (lane : ℕ) → lane < length xs → slice_index_or (map (λ entries. entries ++ End p ∷ []) xs) lane [] ≡ slice_index_or xs lane [] ++ End p ∷ []
at_end p [] lane h = absurd (omega arith)
at_end p (x ∷ xs) zero h = refl
at_end p (x ∷ xs) (suc lane) h = at_end p xs lane (omega arith)

-- the permits have ended
pub accounted_of : (house : Premises) (p : ℕ) (copies : List (Job × Verdict)) (notes : List Noted) (heard hears : List (Entry Noted)) (before after : List (List (Entry Job)))
    → IsStartOf heard hears → HaveEnded p before after → AreBooksOf house.directory house.rooms p copies (notes_tell notes) heard before → AreAccountedFor house p copies notes hears after
accounted_of house p copies notes heard hears before after grew ended books = record {
  noted = books.noted;
  lanes = λ lane under.
      let b = books.lanes lane (let l = ap length ended ∙ length-map before (λ entries. entries ++ End p ∷ []) in omega (arith, l, under)) in
      (b.0, were_put_later house.directory (room_at house.rooms lane) p lane heard hears grew b.1, ap (λ l. slice_index_or l lane []) ended ∙ at_end p before lane (let l = ap length ended ∙ length-map before (λ entries. entries ++ End p ∷ []) in omega (arith, l, under)) ∙ ap (λ l. l ++ End p ∷ []) b.2);
}

pub account_of : (house : Premises) (p : ℕ) (connections replies : List (List ℕ)) (notes : List Noted) (heard hears : List (Entry Noted)) (before after : List (List (Entry Job)))
    → IsStartOf heard hears → HaveEnded p before after → HasServed house p connections replies (notes_tell notes) heard before → Account house p connections replies notes hears after
account_of house p connections replies notes heard hears before after grew ended served =
    let a = accounted_of house p (told served.judged) notes heard hears before after grew ended served.books in
    record { judged = served.judged; talked = served.talked; noted = a.noted; lanes = a.lanes }

pub served_step : (house : Premises) (p : ℕ) (conns : List (Vec ℕ Global)) (i : ℕ) (conn : Vec ℕ Global) (bytes : List ℕ) (replies more : List (Vec ℕ Global)) (reply : Vec ℕ Global)
    (keeps kept : List (Job × Verdict) → Type 0) (heard hears : List (Entry Noted)) (before after : List (List (Entry Job)))
    → i < length conns → conn ≡ slice_index_or conns i conn → bytes ≡ conn.items → more ≡ replies ++ reply ∷ []
    → HasServed house p (map (λ b. b.items) (take i conns)) (map (λ b. b.items) replies) keeps heard before
    → (own : Directory) → IsMarkedBy (closings_of house p) i house.directory own
    → ((done : List Judged) → AreBooks house.directory house.rooms p done keeps heard before → Spoke own house.directory house.rooms p done bytes (setting_at house p i) house.host reply.items kept hears after)
    → HasServed house p (map (λ b. b.items) (take (i + 1) conns)) (map (λ b. b.items) more) kept hears after
served_step house p conns i conn bytes replies more reply keeps kept heard hears before after under is same new served own marked speaks =
    let f : Vec ℕ Global → List ℕ = λ b. b.items in
    let one : map f (take (i + 1) conns) ≡ map f (take i conns) ++ bytes ∷ [] =
    ap (map f) (take_next conns i conn under is) ∙ map-append f (take i conns) (conn ∷ []) ∙ ap (λ x. map f (take i conns) ++ x ∷ []) (sym same) in
    let two : map f more ≡ map f replies ++ reply.items ∷ [] = ap (map f) new ∙ map-append f replies (reply ∷ []) in
    let count : i ≡ length (map f (take i conns)) = let l = length-map (take i conns) f in let k : length (take i conns) ≡ i = length-take-le i conns (omega arith) in sym (l ∙ k) in
    subst (λ x. HasServed house p x (map f more) kept hears after) (sym one)
    (subst (λ x. HasServed house p (map f (take i conns) ++ bytes ∷ []) x kept hears after) (sym two)
    (served_next house p (map f (take i conns)) (map f replies) bytes reply.items i keeps kept heard hears before after count served own marked speaks))

pub served_begin : (house : Premises) (p : ℕ) (replies : List (Vec ℕ Global)) (keeps : List (Job × Verdict) → Type 0) (heard : List (Entry Noted)) (before : List (List (Entry Job))) → replies ≡ [] → AreBooks house.directory house.rooms p [] keeps heard before
    → HasServed house p [] (map (λ b. b.items) replies) keeps heard before
served_begin house p replies keeps heard before is books =
    subst (λ (l : List (Vec ℕ Global)). HasServed house p [] (map (λ b. b.items) l) keeps heard before) (sym is) (record { judged = []; talked = account.none; books = books })
