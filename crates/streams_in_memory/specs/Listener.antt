-- A listener in memory.
use Rattle.std.specs.Prelude.{◌≡◌, ◌⊎◌, ℕ, List, [], ◌∷◌, ◌++◌, Option, Some, None}
use Rattle.streams_in_memory.specs.InMemory.{PieceInValue, PieceOutValue}

-- for each peer that has not connected yet, the bytes that it sends; and the replies to those that were served
pub record PeersValue : Type 0 where
  pub to_come : List (List ℕ)
  pub replies : List (List ℕ)

-- the first peer was accepted
pub record GivesFirst (old : PeersValue) (input : PieceInValue) (output : PieceOutValue) (new : PeersValue) : Type 0 where
  pub bytes : List ℕ
  pub first : old.to_come ≡ bytes ∷ new.to_come
  pub left : input.left ≡ bytes
  pub blank : output.written ≡ []
  pub replies : new.replies ≡ old.replies

-- the first peer was accepted; without streams if the time-out could not be set
abbrev pub Gives : PeersValue → Option (PieceInValue × PieceOutValue) → PeersValue → Type 0
Gives old (Some streams) new = GivesFirst old streams.0 streams.1 new
Gives old None new = (bytes : List ℕ) × (old.to_come ≡ bytes ∷ new.to_come) × (new.replies ≡ old.replies)

-- what was written to the peer becomes the last reply; it is lost if an allocation failed
pub record Keeps (old : PeersValue) (streams : PieceInValue × PieceOutValue) (new : PeersValue) : Type 0 where
  pub to_come : new.to_come ≡ old.to_come
  pub replies : (new.replies ≡ old.replies ++ streams.1.written ∷ []) ⊎ (new.replies ≡ old.replies)
