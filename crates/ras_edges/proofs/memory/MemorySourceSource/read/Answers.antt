use Rattle.std.proofs.Common.{◌≡◌, ℕ, ◌+◌, ◌-◌, List, ◌++◌, length, min, take, drop, sym, ◌∙◌, ap, arith, take-append-drop, length-append}
use Rattle.std.proofs.lemmas.List.{take_all, take_at, drop_all, drop-drop, length-drop, length-take-le}
use Rattle.ras_edges.proofs.memory.MemorySourceSource.read.Goals as goal

-- the bytes from `at` on are the n that were copied and those from `at + n` on
left-read : (bytes : List ℕ) (at n : ℕ) (front into : List ℕ) → length front ≡ n → front ≡ take n (drop at bytes) → drop at bytes ≡ take n (front ++ into) ++ drop (at + n) bytes
left-read bytes at n front into e f =
    sym (take-append-drop n (drop at bytes)) ∙ ap (λ l. l ++ drop n (drop at bytes)) (sym f ∙ sym (take_at front into n e)) ∙ ap (λ l. take n (front ++ into) ++ l) (drop-drop n at bytes)

pub returns-clause-bytes : goal.returns-clause-bytes
returns-clause-bytes c =
    let s = c.args.self.now in
    let n = c.min-n.result in
    let d = c.deref.result.now in
    let front = c.copy_from_slice.new.self in
    let into = c.args.into.now in
    let whole : take (length d - s.at) (drop s.at d) ≡ drop s.at s.bytes.items = take_all (length d - s.at) (drop s.at d) (omega (arith, length-drop s.at d))
    ∙ ap (drop s.at) c.deref.ensures.value in
    let least : n ≡ min c.min.result (length (drop s.at s.bytes.items)) = rw whole at c.min-n.ensures in
    let copied : front ≡ take n (drop s.at s.bytes.items) = rw whole at c.copy_from_slice.ensures.after in
    let len : length front ≡ n = c.copy_from_slice.ensures.len ∙ length-take-le n into (omega arith) in (
      left-read s.bytes.items s.at n front (drop n into) len copied,
      λ none room. drop_all (s.at + n) s.bytes.items (omega (arith, s.moves, length-append front (drop n into), length-drop n into, length-drop s.at s.bytes.items)),
    )
