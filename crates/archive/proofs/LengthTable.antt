-- The table of block lengths, and its rule: one test over the whole table, which is computed.
use Rattle.std.proofs.Common.{◌≡◌, ℕ, zero, suc, ◌+◌, ◌<◌, Bool, true, false, T, eqb, List, [], ◌∷◌, length, get_or, sym, ◌∙◌, subst, le_of_suc-le-suc, not-suc-le-zero, add-zero, add-suc, suc-add, zero-add, eqb→eq}
use Rattle.archive.specs.Lengths.{listed_length}

abbrev both : Bool → Bool → Bool
both true b = b
both false b = false

both_left : (a b : Bool) → T (both a b) → T a
both_left true b t = tt
both_left false b t = t

both_right : (a b : Bool) → T (both a b) → T b
both_right true b t = t
both_right false b t = absurd t

-- the test passes at each entry of a list and its place, counted from i
abbrev every : (ℕ → ℕ → Bool) → ℕ → List ℕ → Bool
every f i [] = true
every f i (x ∷ xs) = both (f i x) (every f (suc i) xs)

from : (f : ℕ → ℕ → Bool) (xs : List ℕ) (i : ℕ) → T (every f i xs) → (k : ℕ) → k < length xs → T (f (i + k) (get_or xs k 0))
from f [] i t k h = absurd (not-suc-le-zero h)
from f (x ∷ xs) i t zero h = subst (λ (m : ℕ). T (f m x)) (sym (add-zero i)) (both_left (f i x) (every f (suc i) xs) t)
from f (x ∷ xs) i t (suc k) h =
    subst (λ (m : ℕ). T (f m (get_or xs k 0))) (suc-add i k ∙ sym (add-suc i k))
    (from f xs (suc i) (both_right (f i x) (every f (suc i) xs) t) k (le_of_suc-le-suc h))

abbrev table : List ℕ
table =
    16 ∷ 30 ∷ 44 ∷ 58 ∷ 72 ∷ 86 ∷ 100 ∷ 114 ∷ 128 ∷ 142 ∷ 156 ∷ 170 ∷ 184 ∷ 198 ∷ 212 ∷ 226 ∷ 240 ∷ 38 ∷ 52 ∷ 66 ∷ 80 ∷ 94 ∷ 108 ∷ 122 ∷ 136 ∷ 150 ∷ 164 ∷ 178 ∷ 192 ∷ 206 ∷ 220 ∷ 234 ∷ 248 ∷ 262 ∷ 60 ∷ 74 ∷ 88 ∷ 102 ∷ 116 ∷ 130 ∷ 144 ∷ 158 ∷ 172 ∷ 186 ∷ 200 ∷ 214 ∷ 228 ∷ 242 ∷ 256 ∷ 270 ∷ 284 ∷ 82 ∷ 96 ∷ 110 ∷ 124 ∷ 138 ∷ 152 ∷ 166 ∷ 180 ∷ 194 ∷ 208 ∷ 222 ∷ 236 ∷ 250 ∷ 264 ∷ 278 ∷ 292 ∷ 306 ∷ 104 ∷ 118 ∷ 132 ∷ 146 ∷ 160 ∷ 174 ∷ 188 ∷ 202 ∷ 216 ∷ 230 ∷ 244 ∷ 258 ∷ 272 ∷ 286 ∷ 300 ∷ 314 ∷ 328 ∷ 126 ∷ 140 ∷ 154 ∷ 168 ∷ 182 ∷ 196 ∷ 210 ∷ 224 ∷ 238 ∷ 252 ∷ 266 ∷ 280 ∷ 294 ∷ 308 ∷ 322 ∷ 336 ∷ 350 ∷ 148 ∷ 162 ∷ 176 ∷ 190 ∷ 204 ∷ 218 ∷ 232 ∷ 246 ∷ 260 ∷ 274 ∷ 288 ∷ 302 ∷ 316 ∷ 330 ∷ 344 ∷ 358 ∷ 372 ∷ 170 ∷ 184 ∷ 198 ∷ 212 ∷ 226 ∷ 240 ∷ 254 ∷ 268 ∷ 282 ∷ 296 ∷ 310 ∷ 324 ∷ 338 ∷ 352 ∷ 366 ∷ 380 ∷ 394 ∷ 192 ∷ 206 ∷ 220 ∷ 234 ∷ 248 ∷ 262 ∷ 276 ∷ 290 ∷ 304 ∷ 318 ∷ 332 ∷ 346 ∷ 360 ∷ 374 ∷ 388 ∷ 402 ∷ 416 ∷ 214 ∷ 228 ∷ 242 ∷ 256 ∷ 270 ∷ 284 ∷ 298 ∷ 312 ∷ 326 ∷ 340 ∷ 354 ∷ 368 ∷ 382 ∷ 396 ∷ 410 ∷ 424 ∷ 438 ∷ 236 ∷ 250 ∷ 264 ∷ 278 ∷ 292 ∷ 306 ∷ 320 ∷ 334 ∷ 348 ∷ 362 ∷ 376 ∷ 390 ∷ 404 ∷ 418 ∷ 432 ∷ 446 ∷ 460 ∷ 258 ∷ 272 ∷ 286 ∷ 300 ∷ 314 ∷ 328 ∷ 342 ∷ 356 ∷ 370 ∷ 384 ∷ 398 ∷ 412 ∷ 426 ∷ 440 ∷ 454 ∷ 468 ∷ 482 ∷ 280 ∷ 294 ∷ 308 ∷ 322 ∷ 336 ∷ 350 ∷ 364 ∷ 378 ∷ 392 ∷ 406 ∷ 420 ∷ 434 ∷ 448 ∷ 462 ∷ 476 ∷ 490 ∷ 504 ∷ 302 ∷ 316 ∷ 330 ∷ 344 ∷ 358 ∷ 372 ∷ 386 ∷ 400 ∷ 414 ∷ 428 ∷ 442 ∷ 456 ∷ 470 ∷ 484 ∷ 498 ∷ 512 ∷ 526 ∷ 324 ∷ 338 ∷ 352 ∷ 366 ∷ 380 ∷ 394 ∷ 408 ∷ 422 ∷ 436 ∷ 450 ∷ 464 ∷ 478 ∷ 492 ∷ 506 ∷ 520 ∷ 534 ∷ 548 ∷ 346 ∷ 360 ∷ 374 ∷ 388 ∷ 402 ∷ 416 ∷ 430 ∷ 444 ∷ 458 ∷ 472 ∷ 486 ∷ 500 ∷ 514 ∷ 528 ∷ 542 ∷ 556 ∷ 570 ∷ 368 ∷ 382 ∷ 396 ∷ 410 ∷ 424 ∷ 438 ∷ 452 ∷ 466 ∷ 480 ∷ 494 ∷ 508 ∷ 522 ∷ 536 ∷ 550 ∷ 564 ∷ 578 ∷ 592 ∷ []

right : ℕ → ℕ → Bool
right k x = eqb x (listed_length k)

pub table_right : (k : ℕ) → k < 289 → get_or table k 0 ≡ listed_length k
unfolding right
table_right k h = eqb→eq (get_or table k 0) (listed_length k) (subst (λ (m : ℕ). T (right m (get_or table k 0))) (zero-add k) (from right table 0 tt k h))
