-- Keys of one seat, in their order.
use Rattle.std.proofs.Common.{ℕ, ◌<◌, inl, inr, refl, sym, subst, arith}
use Rattle.delivery_token.specs.declared.CopyKey.{CopyKey}
use Rattle.delivery_token.specs.Keys.{AtLeast, Below}

abbrev key_at : ℕ → ℕ → ℕ → ℕ → CopyKey
key_at seat serial message recipient = record { seat = seat; serial = serial; message = message; recipient = recipient }

-- a later message's first key comes later
later : (y : CopyKey) (seat serial m n i : ℕ) → Below y (key_at seat serial m i) → m < n → Below y (key_at seat serial n 0)
later y seat serial m n i (inl h) l = inl h
later y seat serial m n i (inr (e, inl h)) l = inr (e, inl (omega arith))
later y seat serial m n i (inr (e, inr h)) l = inr (e, inl (omega (arith, h.0)))

pub later-message : (y : CopyKey) (seat serial m n i : ℕ) → AtLeast y (key_at seat serial m i) → m < n → AtLeast y (key_at seat serial n 0)
later-message y seat serial m n i (inl e) l = inr (subst (λ (z : CopyKey). Below z (key_at seat serial n 0)) (sym e) (inr (refl, inl l)))
later-message y seat serial m n i (inr h) l = inr (later y seat serial m n i h l)
