-- Document 01, "Proof cases" P1 to P12, its case with buffers around the listing's length, the empty text, the examples of "Why a
-- model comes back", and data sections with negative numbers, orders and fixed entries: one table of questions and answers, which
-- antt computes over the definition.
use mathlib.Core.Path.{◌≡◌, refl}
use mathlib.Core.Bool.{cond}
use mathlib.Core.List.{List, [], ◌∷◌, ◌++◌, map}
use Prim.Native.Nat.{ℕ}
use Prim.Native.String.{String}
use lib.Dec.{eqb}
use lib.IntN.{pos}
use lib.ListN.{take, replicate}
use Rattle.rules.specs.Characters.{bytes, space}
use Rattle.rules.specs.Refusals.{refusal_number}
use Rattle.value.specs.declared.Value.{Value}
use Rattle.language.specs.Outcome.{Outcome, done, refused}
use Rattle.language.specs.Answer.{Answer}
use Rattle.language.specs.Computed.{computed, computed_value}

-- the value of a formula in which `i` is an index; the answer to a model text with a buffer; that to a text of n spaces
data Question : Type 0 where
  formula : String → Question
  model : String → ℕ → Question
  spaces : ℕ → Question

data Reply : Type 0 where
  value : Value → Reply
  listing : List ℕ → Reply
  refusal : ℕ → ℕ → Reply

of_value : Outcome Value → Reply
of_value (done v) = value v
of_value (refused r p) = refusal (refusal_number r) p

of_answer : Answer → Reply
of_answer a = cond (eqb a.number 0) (listing (take a.size a.buffer)) (refusal a.number a.place)

reply : Question → Reply
unfolding of_value of_answer computed computed_value
reply (formula t) = of_value (computed_value (bytes t))
reply (model t n) = of_answer (computed (bytes t) n)
reply (spaces n) = of_answer (computed (replicate n space) 0)

record Case : Type 0 where
  asks : Question
  gives : Reply

decimal : ℕ → ℕ → Reply
decimal m s = value (record { m = pos m; s = s })

unfoldable pub blend : String
blend =
    "OPEN {blend} index i; integer n; real p[i] (1 <= i <= n);\ncontinuous x[i] (1 <= i <= n);\nMINIMIZE: S(i, 1, n, p[i] * x[i])\n{mass} S(i, 1, n, x[i]) = 1\n{lime} x[1] - 2 * x[2] >= 0.5\n{top} x[2] <= 0.75\nINIT {today} n + 2 p[i] + 3.10 + 4 CLOSE\n"

blend-listing : String
blend-listing =
    "lp\t0\t2\t1\t2\tblend\ttoday\nrow\t1\tL\t-0.5\tlime\nrow\t2\tE\t1\tmass\nvar\t1\tC\t0\tinf\tx\t1\nvar\t2\tC\t0\t0.75\tx\t2\ncol\t1\t1\t-1\ncol\t1\t2\t1\ncol\t1\t3\t-3.1\ncol\t2\t1\t2\ncol\t2\t2\t1\ncol\t2\t3\t-4\nend\n"

cases : List Case
unfolding blend blend-listing decimal
cases =
    record { asks = formula "1.50"; gives = decimal 15 1 }  -- P1
    ∷ record { asks = formula "1.0000000"; gives = decimal 1 0 }  -- P2
    ∷ record { asks = formula "0.0000001"; gives = refusal 5 0 }  -- P3
    ∷ record { asks = formula "999999999"; gives = decimal 999999999 0 }  -- P4
    ∷ record { asks = formula "1000000000"; gives = refusal 5 0 }  -- P5
    ∷ record { asks = formula "0.001 * 0.001"; gives = decimal 1 6 }  -- P6
    ∷ record { asks = formula "0.001 * 0.0001"; gives = refusal 5 6 }  -- P7
    ∷ record { asks = formula "SUM(i, 1, 3, i)"; gives = decimal 6 0 }  -- P8
    ∷ record { asks = formula "SUM(i, 3, 2, i)"; gives = decimal 0 0 }  -- P9
    ∷ record { asks = formula "SUM(i, 1, 256, 1)"; gives = decimal 256 0 }  -- P10
    ∷ record { asks = formula "SUM(i, 1, 257, 1)"; gives = refusal 8 0 }  -- P11
    -- powers of ten, one that does not fit, and one in a fixed entry (decision 50)
    ∷ record { asks = formula "2.5E-3 + .5E2"; gives = decimal 500025 4 }
    ∷ record { asks = formula "i * 1E-7"; gives = refusal 5 4 }
    ∷ record { asks = model "OPEN {m} index i; real p[i] (1 <= i <= 2); continuous x; MAXIMIZE: x {c} x <= 1 INIT {d} p[1E0] + 1 CLOSE" 65536; gives = refusal 3 91 }
    -- P12: `x - x` as a left side is a row with no `col` for x in it
    ∷ record {
      asks = model "OPEN {m} continuous x; MAXIMIZE: x {c} x - x <= 1 CLOSE" 65536;
      gives = listing (bytes "lp\t0\t1\t1\t1\tm\t\nrow\t1\tL\t1\tc\nvar\t1\tC\t0\tinf\tx\ncol\t1\t2\t1\nend\n");
    }
    ∷ record { asks = model "" 65536; gives = refusal 3 0 }
    ∷ record { asks = model blend 65536; gives = listing (bytes blend-listing) }
    ∷ record { asks = model blend 162; gives = listing (bytes blend-listing) }
    ∷ record { asks = model blend 161; gives = refusal 11 162 }
    -- the table of refusals, from 1 to 11; 5 and 8 again as formulas
    ∷ record { asks = spaces 16385; gives = refusal 1 16384 }
    ∷ record { asks = model "?" 65536; gives = refusal 2 0 }
    ∷ record { asks = model "OPEN CLOSE" 65536; gives = refusal 3 5 }
    ∷ record { asks = model "OPEN {m} index i, i;" 65536; gives = refusal 4 18 }
    ∷ record { asks = formula "99999 * 99999"; gives = refusal 5 6 }
    ∷ record { asks = model "OPEN {m} index n0, n1, n2, n3, n4, n5, n6, n7, n8, n9, n10, n11, n12, n13, n14, n15, n16, n17, n18, n19, n20, n21, n22, n23, n24, n25, n26, n27, n28, n29, n30, n31, n32, n33, n34, n35, n36, n37, n38, n39, n40, n41, n42, n43, n44, n45, n46, n47, n48, n49, n50, n51, n52, n53, n54, n55, n56, n57, n58, n59, n60, n61, n62, n63, n64;" 65536; gives = refusal 6 325 }
    ∷ record { asks = model "OPEN {m} index i; real p[i] (1 <= i <= 2); continuous x; MAXIMIZE: p[i] * x {c} x <= 1 INIT {d} p[i] + 1 + 2 CLOSE" 65536; gives = refusal 7 69 }
    ∷ record { asks = formula "2 + SUM(i, 1, 257, 1)"; gives = refusal 8 4 }
    ∷ record { asks = model "OPEN {m} index i; integer n; real p[i] (1 <= i <= n); continuous x; MAXIMIZE: p[3] * x {c} x <= 1 INIT {d} n + 2 p[i] + 1 + 2 CLOSE" 65536; gives = refusal 9 78 }
    ∷ record { asks = model "OPEN {m} integer n; continuous x; MAXIMIZE: n * x {c} x <= 1 INIT {d} n + 2 + 3 CLOSE" 65536; gives = refusal 10 76 }
    ∷ record { asks = model blend 5; gives = refusal 11 162 }
    -- data sections with negative numbers, orders and fixed entries: stored cases, whose answers are the second generator's too
    ∷ record {
      asks = model "OPEN {m} index i, j, k; integer n; real p[i, j] (1 <= i <= 2, 1 <= j <= 2); continuous x; MAXIMIZE: x {c} 2 * x <= 1000 * p[1, 1] + 100 * p[1, 2] + 10 * p[2, 1] + p[2, 2] INIT {d} n + 1 p[j, i] (i, j) + 1 + 2 + 3 + 4 CLOSE" 65536;
      gives = listing (bytes "lp\t0\t1\t1\t1\tm\td\nrow\t1\tL\t1324\tc\nvar\t1\tC\t0\tinf\tx\ncol\t1\t1\t2\ncol\t1\t2\t1\nend\n");
    }
    ∷ record {
      asks = model "OPEN {m} index i, j, k; integer n; real p[i, j] (1 <= i <= 2, 1 <= j <= 2); continuous x; MAXIMIZE: x {c} 2 * x <= 1000 * p[1, 1] + 100 * p[1, 2] + 10 * p[2, 1] + p[2, 2] INIT {d} n + 1 p[1, j] + 1 + 2 p[+2, k] - 3 + 4 CLOSE" 65536;
      gives = listing (bytes "lp\t0\t1\t1\t1\tm\td\nrow\t1\tL\t1174\tc\nvar\t1\tC\t0\tinf\tx\ncol\t1\t1\t2\ncol\t1\t2\t1\nend\n");
    }
    ∷ record {
      asks = model "OPEN {m} index i, j, k; integer n; real p[i, j] (1 <= i <= 2, 1 <= j <= 2); continuous x; MAXIMIZE: x {c} 2 * x <= 1000 * p[1, 1] + 100 * p[1, 2] + 10 * p[2, 1] + p[2, 2] INIT {d} n - 1 p[1, j] (j) + 1 + 2 p[2, j] + 3 + 4 CLOSE" 65536;
      gives = listing (bytes "lp\t0\t1\t1\t1\tm\td\nrow\t1\tL\t1234\tc\nvar\t1\tC\t0\tinf\tx\ncol\t1\t1\t2\ncol\t1\t2\t1\nend\n");
    }
    ∷ []

cases-hold : map (λ (c : Case). reply c.asks) cases ≡ map (λ (c : Case). c.gives) cases
unfolding cases reply
cases-hold = refl

-- every byte of the buffer: the listing and then zeros, and on a refusal zeros only
bytes_after : (computed (bytes "OPEN {m} continuous x; MAXIMIZE: x {c} x - x <= 1 CLOSE") 58).buffer
    ≡ bytes "lp\t0\t1\t1\t1\tm\t\nrow\t1\tL\t1\tc\nvar\t1\tC\t0\tinf\tx\ncol\t1\t2\t1\nend\n" ++ (0 ∷ 0 ∷ [])
unfolding computed
bytes_after = refl

short-buffer : computed (bytes blend) 5 ≡ record { number = 11; place = 162; size = 0; buffer = 0 ∷ 0 ∷ 0 ∷ 0 ∷ 0 ∷ [] }
unfolding computed blend
short-buffer = refl
