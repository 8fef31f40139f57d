mod ServeLemmas
mod LevelLemmas
