use Rattle.std.proofs.Common.{◌≡◌, ℕ, List, [], ◌∷◌, ◌++◌, append_assoc}
use Rattle.std.specs.Prelude.{codes}
use Rattle.std.specs.Fmt.{decimal}
use Rattle.model_archive.specs.Replies.{cost_text}
use Rattle.archive_replies.proofs.page.ReplyPage.put_summary.Goals as goal

-- what was put bit by bit, as one line
joined : (a w c d e f g h i j k l m n b0 b1 b2 b3 b4 b5 b6 b7 : List ℕ) → b0 ≡ a ++ w → b1 ≡ b0 ++ c ++ d → b2 ≡ b1 ++ e ++ f → b3 ≡ b2 ++ g ++ h → b4 ≡ b3 ++ i ++ j → b5 ≡ b4 ++ k ++ l → b6 ≡ b5 ++ m → b7 ≡ b6 ++ n
    → b7 ≡ a ++ (w ++ c ++ d ++ e ++ f ++ g ++ h ++ i ++ j ++ k ++ l ++ m ++ n)
joined a w c d e f g h i j k l m n b0 b1 b2 b3 b4 b5 b6 b7 p0 p1 p2 p3 p4 p5 p6 p7 = rw (p7, p6, p5, p4, p3, p2, p1, p0) (simp append_assoc)

pub returns : goal.returns
returns c = record {
  bytes = (let s = c.args.summary in
      joined c.args.self.now.bytes c.args.word.now (codes " ") (decimal s.length) (codes " segments ") (decimal s.segments) (codes " space ") (decimal s.space) (codes " full ") (decimal s.full) (codes " horizon ") (decimal s.horizon.seconds) (cost_text s.cost) (10 ∷ [])
      _ _ _ _ _ _ _ _ c.put.ensures.bytes c.put_named.ensures.bytes c.put_named-2.ensures.bytes c.put_named-3.ensures.bytes c.put_named-4.ensures.bytes c.put_named-5.ensures.bytes c.put_cost.ensures.bytes c.put-2.ensures.bytes);
}
